-- For callers: when a call is granted, and what it then did.
use Rattle.std.proofs.Common.{◌≡◌, ℕ, ◌<◌, ◌≢◌, List, ◌∷◌, ◌++◌, length, Ok, Result, sym, ap, ◌∙◌, subst, arith, length-append}
use Rattle.tree.specs.declared.refusal.Refusal.{Refusal}
use Rattle.tree.specs.declared.paths.PathTree.{PathTree}
use Rattle.tree.specs.Held.{Held, Holder, room, Follows, Addable, Added, Adds, Released, Releases}
use Rattle.tree.proofs.Holding.{held_same}

-- an answer that is Ok
pub adds_ok : (t : PathTree) (p x : ℕ) (a : Result ℕ Refusal) (r : ℕ) (t' : PathTree) → Adds t p x a t' → a ≡ Ok r → Added t p x r t'
adds_ok t p x a r t' A e = subst (λ (b : Result ℕ Refusal). Adds t p x b t') e A

pub releases_ok : (t : PathTree) (i : ℕ) (a : Result (Unit {0}) Refusal) (u : Unit {0}) (t' : PathTree) → Releases t i a t' → a ≡ Ok u → Released t i t'
releases_ok t i a u t' R e = subst (λ (b : Result (Unit {0}) Refusal). Releases t i b t') e R

module _ (t : PathTree) (p : ℕ) (xs : List ℕ) (h : Held t p xs) where
  pub holder : Holder t p
  holder = record { path = xs; held = h }

  -- what follows p, past the path that is known
  pub beyond : (y : ℕ) (F : Follows t p y) → Held t F.entry (xs ++ (y ∷ F.rest))
  beyond y F = subst (λ (us : List ℕ). Held t F.entry (us ++ (y ∷ F.rest))) (held_same t p F.path xs F.held h) F.beyond

  -- an item can be added where no other held path begins as that of p
  pub addable_leaf : (x : ℕ) → 0 < room t → ((i : ℕ) (ys : List ℕ) → Held t i (xs ++ ys) → i ≡ p) → Addable t p x
  addable_leaf x some alone = record { holder = holder; some = some; absent = none x; single = λ y z F G. absurd (none y F) }
    where
      none : (y : ℕ) → Follows t p y → ⊥
      none y F =
          let w = beyond y F in
          let e = alone F.entry (y ∷ F.rest) w in
          let q = held_same t p xs (xs ++ (y ∷ F.rest)) h (subst (λ (j : ℕ). Held t j (xs ++ (y ∷ F.rest))) e w) in
          let l = ap length q in
          let m = length-append xs (y ∷ F.rest) in
          omega (arith, l, m)

  -- and where those that do all go on with one other item
  pub addable_beside : (x z : ℕ) → 0 < room t → x ≢ z → ((i y : ℕ) (ys : List ℕ) → Held t i (xs ++ (y ∷ ys)) → y ≡ z) → Addable t p x
  addable_beside x z some n only = record {
    holder = holder;
    some = some;
    absent = λ F. n (only F.entry x F.rest (beyond x F));
    single = λ y w F G. only F.entry y F.rest (beyond y F) ∙ sym (only G.entry w G.rest (beyond w G));
  }
