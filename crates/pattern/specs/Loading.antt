-- What the steps of reading a file do. Assumes nothing.
use Rattle.std.specs.Prelude.{◌≡◌, ℕ, ◌+◌, true, drop, is_ok, Some, None, Err, Option, Result}
use Rattle.fault.specs.declared.refusal.Fault.{Fault}
use Rattle.pattern.specs.declared.pattern.load.Loader.{Loader}
use Rattle.pattern.specs.Numbers.{Long}
use Rattle.pattern.specs.Files.{Effect, refused, leaves}
use Rattle.pattern.specs.Drafts.{Holds}

-- a number is taken off the unread bytes, or nothing changes; what stands and the place stay
abbrev pub Taken : Option Long → Loader → Loader → Option ℕ → Type 0
Taken None old new r = (r ≡ None) × (new ≡ old)
Taken (Some x) old new r =
    (r ≡ Some x.value) × (new.draft ≡ old.draft) × (new.rest.now ≡ drop x.bytes old.rest.now) × (new.place ≡ old.place)

-- what an operation does, of which n bytes are read already
abbrev pub Works : ℕ → Effect → Loader → Loader → Result (Unit {0}) Fault → Type 0
Works n (refused c) old new r = r ≡ Err (record { cause = c; place = old.place })
Works n (leaves m es) old new r = (is_ok r ≡ true) × Holds new.draft es × ((k : ℕ) × (n + k ≡ m) × (new.rest.now ≡ drop k old.rest.now))
