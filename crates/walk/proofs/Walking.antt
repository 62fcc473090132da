-- Walks in stretches: one symbol more at the end.
use Rattle.std.proofs.Common.{◌≡◌, ℕ, true, List, [], ◌∷◌, ◌++◌, sym, refl, ap, ◌∙◌, append_assoc}
use Rattle.alphabet.specs.Meaning.{Meaning}
use Rattle.alphabet.specs.Items.{read_item}
use Rattle.pattern.specs.declared.step.Step.{Step}
use Rattle.pattern.specs.declared.step.Step.TheVariants.{Read}
use Rattle.walk.specs.Graphs.{rests, none}
use Rattle.walk.specs.Codes.{Code}
use Rattle.walk.proofs.Stages.{Stretch, Staged, last, reads}
use Rattle.walk.proofs.Stretches.{ends_resting}

module _ {Symbol : Type 0} (L : Meaning Symbol) (at : ℕ → Step) where
  -- a walk that has read one symbol more
  pub record Onward (w : List Symbol) (a : Symbol) (p q : ℕ) (c : Code) : Type 0 where
    pub via : ℕ
    pub class : ℕ
    pub next : ℕ
    pub before : Code
    pub behind : Code
    pub walk : Staged L at w p via before
    pub is : at via ≡ Read class next
    pub takes : L.belongs class a ≡ true
    pub stretch : Stretch at none next q behind
    pub code : c ≡ before ++ (read_item (L.number a) ∷ behind)

  pub onward : (w : List Symbol) (a : Symbol) {p q : ℕ} {c : Code} → Staged L at (w ++ (a ∷ [])) p q c → Onward w a p q c
  onward [] a (reads {r = r} {k = k} {class = cl} {c = c} s e b (last {c = d} t)) =
      record { via = r; class = cl; next = k; before = c; behind = d; walk = last s; is = e; takes = b; stretch = t; code = refl }
  onward (x ∷ w) a (reads {c = c} s e b rest) =
      let h = onward w a rest in
      record {
        via = h.via;
        class = h.class;
        next = h.next;
        before = c ++ (read_item (L.number x) ∷ h.before);
        behind = h.behind;
        walk = reads s e b h.walk;
        is = h.is;
        takes = h.takes;
        stretch = h.stretch;
        code = ap (λ (y : Code). c ++ (read_item (L.number x) ∷ y)) h.code ∙ sym (append_assoc c (read_item (L.number x) ∷ h.before) (read_item (L.number a) ∷ h.behind));
      }

  pub extend : {w : List Symbol} {p r : ℕ} {c : Code} (a : Symbol) (class k q : ℕ) (d : Code) → Staged L at w p r c →
      at r ≡ Read class k → L.belongs class a ≡ true → Stretch at none k q d →
      Staged L at (w ++ (a ∷ [])) p q (c ++ (read_item (L.number a) ∷ d))
  extend a class k q d (last s) e b t = reads s e b (last t)
  extend a class k q d (reads {a = x} {c = c} {d = c'} s e' b' rest) e b t =
      rw (append_assoc c (read_item (L.number x) ∷ c') (read_item (L.number a) ∷ d)) (reads s e' b' (extend a class k q d rest e b t))

  pub walk_rests : {w : List Symbol} {p q : ℕ} {c : Code} → Staged L at w p q c → rests (at q) ≡ true
  walk_rests (last s) = ends_resting at s
  walk_rests (reads s e b rest) = walk_rests rest
