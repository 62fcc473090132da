-- What a sink means that takes so many items: the position is how many are left. Assumes nothing.
use Rattle.std.specs.Prelude.{ℕ, ◌-◌, [], nat_lt}
use Rattle.sink.specs.Meaning.{Meaning}

abbrev pub few_meaning : Meaning
few_meaning =
    record {
      Position = ℕ;
      channels = [];
      limit = λ c. 0;
      expected = λ n i. nat_lt 0 n;
      next = λ n i. n - 1;
      added = λ n i c. [];
    }
