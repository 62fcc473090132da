use Rattle.std.proofs.Common.{Some, refl, ap, ◌∙◌}
use Rattle.pattern.proofs.Operating.{empty_works, star_works, sequence_works, choice_works, read_on}
use Rattle.pattern.proofs.pattern.load.Loader.operate.Goals as goal

pub returns-in-Empty : goal.returns-in-Empty
returns-in-Empty c es h =
    empty_works c.args.self.now c.number.new.self _ c.in-Some.code es _ c.in-Some.ensures h (c.in-Ok.ensures ∙ ap Some c.in-Empty.is) refl c.empty.ensures

pub returns-in-Drops : goal.returns-in-Drops
returns-in-Drops c es h =
    read_on c.args.self.now c.number.new.self _ c.in-Some.code es _ c.in-Some.ensures h _ (c.in-Ok.ensures ∙ ap Some c.in-Drops.is) c.read.ensures

pub returns-in-Keeps : goal.returns-in-Keeps
returns-in-Keeps c es h =
    read_on c.args.self.now c.number.new.self _ c.in-Some.code es _ c.in-Some.ensures h _ (c.in-Ok.ensures ∙ ap Some c.in-Keeps.is) c.read-in-Keeps.ensures

pub returns-in-Text : goal.returns-in-Text
returns-in-Text c es h =
    read_on c.args.self.now c.number.new.self _ c.in-Some.code es _ c.in-Some.ensures h _ (c.in-Ok.ensures ∙ ap Some c.in-Text.is) c.text.ensures

pub returns-in-Sequence : goal.returns-in-Sequence
returns-in-Sequence c es h =
    sequence_works c.args.self.now c.number.new.self _ c.in-Some.code es _ c.in-Some.ensures h (c.in-Ok.ensures ∙ ap Some c.in-Sequence.is) refl c.sequence.ensures

pub returns-in-Choice : goal.returns-in-Choice
returns-in-Choice c es h =
    choice_works c.args.self.now c.number.new.self _ c.in-Some.code es _ c.in-Some.ensures h (c.in-Ok.ensures ∙ ap Some c.in-Choice.is) refl c.choice.ensures

pub returns-in-Star : goal.returns-in-Star
returns-in-Star c es h =
    star_works c.args.self.now c.number.new.self _ c.in-Some.code es _ c.in-Some.ensures h (c.in-Ok.ensures ∙ ap Some c.in-Star.is) refl c.star.ensures
