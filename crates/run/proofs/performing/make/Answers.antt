use Rattle.std.proofs.Common.{refl}
use Rattle.run.proofs.Making.{feed_makes, pour_makes}
use Rattle.run.proofs.performing.make.Goals as goal

pub returns-in-Feed : goal.returns-in-Feed
returns-in-Feed g c =
    record {
      pattern = c.feed.ensures.pattern;
      alphabet = c.feed.ensures.alphabet;
      makes = feed_makes _ _ g.K.Sink.meaning _ _ _ _ _ _ _ _ c.in-Feed.is c.feed.ensures.feeds;
    }

pub returns-in-Pour : goal.returns-in-Pour
returns-in-Pour g c =
    let h = c.pour.ensures in
    record {
      pattern = refl;
      alphabet = refl;
      makes = pour_makes _ _ g.K.Sink.meaning _ _ _ _ _ _ _ _ _ _ c.in-Pour.is h.answer h.unmoved h.stocked h.written;
    }
