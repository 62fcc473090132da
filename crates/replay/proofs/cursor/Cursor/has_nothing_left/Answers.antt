use Rattle.replay.specs.Unread.{unread}
use Rattle.replay.proofs.Unreading.{filling_is}
use Rattle.replay.proofs.cursor.Cursor.has_nothing_left.Goals as goal

pub returns-then-self-count : goal.returns-then-self-count
returns-then-self-count c =
    let i = filling_is (unread c.args.self.now.bits) in (
      λ e. (c.if-self-count.true, i.0 (c.is_filling.ensures.0 e)),
      λ h. c.is_filling.ensures.1 (i.1 h.1),
    )
