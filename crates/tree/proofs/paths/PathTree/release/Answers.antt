use Rattle.std.proofs.Common.{sym}
use Rattle.tree.proofs.Loose.{loose_sound, loose_used, loose_released}
use Rattle.tree.proofs.Holding.{sound_of, released}
use Rattle.tree.proofs.paths.PathTree.release.Goals as goal

pub prune-requires-clause-sound : goal.prune-requires-clause-sound
prune-requires-clause-sound c = loose_sound c.args.self.now.table c.args.holder (sound_of c.args.self.now) (sym c.if-not-is_held.ensures)

pub prune-requires-clause-used : goal.prune-requires-clause-used
prune-requires-clause-used c = loose_used c.args.self.now.table c.args.holder (sound_of c.args.self.now) (sym c.if-not-is_held.ensures)

pub returns-clause-releases : goal.returns-clause-releases
returns-clause-releases c =
    let t = c.args.self.now in
    let h = sym c.if-not-is_held.ensures in
    released t c.args.holder _ h (loose_released t.table c.args.holder (sound_of t) h _ c.prune.ensures)
