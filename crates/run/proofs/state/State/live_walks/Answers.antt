use Rattle.run.proofs.Ends.{live_counted}
use Rattle.reader.proofs.Basics.{all_points}
use Rattle.run.proofs.state.State.live_walks.Goals as goal

pub returns-in-None : goal.returns-in-None
returns-in-None g c =
    record {
      live = live_counted _ _ _ c.live_points.result _ c.in-None.is (all_points c.live_points.result) c.live_points.ensures.live c.count.ensures;
      seen = live_counted _ _ _ c.live_points.result _ c.in-None.is (all_points c.live_points.result) c.live_points.ensures.seen c.count.ensures;
    }
