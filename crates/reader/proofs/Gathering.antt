-- Items taken off the held paths, one after another.
use Rattle.std.proofs.Common.{◌≡◌, ℕ, true, [], ◌∷◌, ◌++◌, reverse, sym, ap, ◌∙◌, subst, append_assoc, arith}
use Rattle.tree.specs.declared.table.Table.{Table}
use Rattle.tree.specs.declared.paths.PathTree.{PathTree}
use Rattle.tree.specs.Sound.{held_of, left, Up}
use Rattle.tree.specs.Held.{Held, Same, Taken, NoneShared, room}
use Rattle.walk.specs.Codes.{Code}
use Rattle.reader.specs.Gather.{Gathered, Parted}

-- an unchanged tree holds the same
pub same_held : (t t' : PathTree) → Same t t' → (i : ℕ) (xs : Code) → Held t i xs → Held t' i xs
same_held t t' e i xs h = subst (λ (T : Table). (held_of T i ≡ true) × Up T i (reverse xs)) (sym e) h

pub held_before : (t t' : PathTree) → Same t t' → (i : ℕ) (xs : Code) → Held t' i xs → Held t i xs
held_before t t' e i xs h = subst (λ (T : Table). (held_of T i ≡ true) × Up T i (reverse xs)) e h

pub same_room : (t t' : PathTree) → Same t t' → room t' ≡ room t
same_room t t' e = ap left e

pub gathered_more : (t t' t2 : PathTree) (xs ys : Code) (x : ℕ) → Gathered t xs t' → Taken t' x t2 → ys ≡ xs ++ (x ∷ []) → Gathered t ys t2
gathered_more t t' t2 xs ys x G T e = record {
  more = let a = G.more in let b = T.left in omega (arith, a, b);
  began = λ i zs h.
      let a = G.began i zs h in
      let b = T.shares.all i a.0 a.2 in
      (b.0, a.1 ∙ ap (λ (y : Code). xs ++ y) b.1 ∙ sym (append_assoc xs (x ∷ []) b.0) ∙ ap (λ (y : Code). y ++ b.0) (sym e), T.rest i b.0 (subst (Held t' i) b.1 a.2));
  only = λ i us h. subst (Held t i) (sym (append_assoc xs (x ∷ []) us) ∙ ap (λ (y : Code). y ++ us) (sym e)) (G.only i (x ∷ us) (T.only i us h));
}

pub gathered_same : (t t' t2 : PathTree) (xs : Code) → Gathered t xs t' → Same t' t2 → Gathered t xs t2
gathered_same t t' t2 xs G e = record {
  more = let a = G.more in let b = same_room t' t2 e in omega (arith, a, b);
  began = λ i zs h. let a = G.began i zs h in (a.0, a.1, same_held t' t2 e i a.0 a.2);
  only = λ i ys h. G.only i ys (held_before t' t2 e i ys h);
}

pub parted_same : (t t' : PathTree) → NoneShared t → Same t t' → Parted t'
parted_same t t' N e x S = N.never x (record {
  slot = S.slot;
  holder = record { path = S.holder.path; held = held_before t t' e S.slot S.holder.path S.holder.held };
  all = λ i xs h. S.all i xs (same_held t t' e i xs h);
})
