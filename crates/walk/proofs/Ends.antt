-- What the live walks say of every input that begins with the symbols read.
use Rattle.std.proofs.Common.{◌≡◌, ℕ, true, List, [], ◌∷◌, ◌++◌, sym, refl, ap, ◌∙◌, append_assoc, append-nil}
use Rattle.alphabet.specs.Meaning.{Meaning}
use Rattle.alphabet.specs.Items.{read_item, end_mark}
use Rattle.pattern.specs.declared.step.Step.{Step}
use Rattle.pattern.specs.declared.step.Step.TheVariants.{Read}
use Rattle.walk.specs.Graphs.{none}
use Rattle.walk.specs.Codes.{Code, Begins}
use Rattle.walk.specs.Walks.{Live, Shared, Greedy}
use Rattle.walk.proofs.Stages.{Stretch, Staged, last, reads}
use Rattle.walk.proofs.Pieces.{to_staged, from_staged}
use Rattle.walk.proofs.Order.{earlier_grows}

regroup : (g c x y s r e : Code) → g ≡ c ++ e → c ≡ x ++ y → x ≡ s ++ r → g ≡ s ++ (r ++ (y ++ e))
regroup g c x y s r e i j k = rw (i, j, k) (simp append_assoc)

after_both : (c x y s r : Code) → c ≡ x ++ y → x ≡ s ++ r → c ≡ s ++ (r ++ y)
after_both c x y s r i j = rw (i, j) (append_assoc s r y)

module _ {Symbol : Type 0} (L : Meaning Symbol) (at : ℕ → Step) where
  -- the rest of a walk, from the point where it has read some of the symbols
  pub data Tail : List Symbol → ℕ → ℕ → Code → Type 0 where
    ended : {q : ℕ} → Tail [] q q []
    more : {a : Symbol} {u : List Symbol} {r q class k : ℕ} {d : Code} → at r ≡ Read class k → L.belongs class a ≡ true →
        Staged L at u k q d → Tail (a ∷ u) r q (read_item (L.number a) ∷ d)

  pub record Split (w u : List Symbol) (p q : ℕ) (c : Code) : Type 0 where
    pub via : ℕ
    pub before : Code
    pub behind : Code
    pub walk : Staged L at w p via before
    pub tail : Tail u via q behind
    pub code : c ≡ before ++ behind

  split_none : (u : List Symbol) (p q : ℕ) (c : Code) → Staged L at u p q c → Split [] u p q c
  split_none u p q c (last s) = record { via = q; before = c; behind = []; walk = last s; tail = ended; code = sym (append-nil c) }
  split_none u p q _ (reads {a = a} {r = r} {c = c} {d = d} s e b t) =
      record { via = r; before = c; behind = read_item (L.number a) ∷ d; walk = last s; tail = more e b t; code = refl }

  pub split : (w u : List Symbol) {p q : ℕ} {c : Code} → Staged L at (w ++ u) p q c → Split w u p q c
  split [] u {p} {q} {c} t = split_none u p q c t
  split (x ∷ w) u (reads {c = c} s e b t) =
      let h = split w u t in
      record {
        via = h.via;
        before = c ++ (read_item (L.number x) ∷ h.before);
        behind = h.behind;
        walk = reads s e b h.walk;
        tail = h.tail;
        code = ap (λ (y : Code). c ++ (read_item (L.number x) ∷ y)) h.code ∙ sym (append_assoc c (read_item (L.number x) ∷ h.before) h.behind);
      }

  join_last : (u : List Symbol) {p r q : ℕ} {c d : Code} → Stretch at none p r c → Tail u r q d → Staged L at u p q (c ++ d)
  join_last u {c = c} s ended = rw (append-nil c) (last s)
  join_last u s (more e b t) = reads s e b t

  pub join : {w : List Symbol} (u : List Symbol) {p r q : ℕ} {c d : Code} → Staged L at w p r c → Tail u r q d → Staged L at (w ++ u) p q (c ++ d)
  join u (last s) t = join_last u s t
  join u {d = d} (reads {a = x} {c = c} {d = c'} s e b z) t = rw (append_assoc c (read_item (L.number x) ∷ c') d) (reads s e b (join u z t))

  module _ (from : ℕ) where
    -- the beginning of an earliest walk is a live walk
    pub begins_live : (w u : List Symbol) (q : ℕ) (c : Code) → Live L at from (w ++ u) q c → (h : Split w u from q c) → Live L at from w h.via h.before
    begins_live w u q c l h =
        (from_staged L at h.walk, λ d t e. l.1 (d ++ h.behind) (from_staged L at (join u (to_staged L at t) h.tail)) (rw h.code (earlier_grows d h.before h.behind h.behind e)))

    -- what is shared over begins the greedy code of every accepted input that begins with the symbols read
    pub shared_begins : (end : ℕ) (w u : List Symbol) (s g : Code) → Shared L at from w s → Greedy L at from end (w ++ u) g → Begins g s
    shared_begins end w u s g h y =
        let z = split w u (to_staged L at y.1.0) in
        let b = h.0 z.via z.before (begins_live w u end y.0 y.1 z) in
        (b.0 ++ (z.behind ++ (end_mark ∷ [])), regroup g y.0 z.before z.behind s b.0 (end_mark ∷ []) y.2 z.code b.1)

    -- what is shared over only grows
    pub shared_grows : (w u : List Symbol) (s t : Code) → Shared L at from w s → Shared L at from (w ++ u) t → Begins t s
    shared_grows w u s t h k =
        k.1 s (λ q c l.
        let z = split w u (to_staged L at l.0) in
        let b = h.0 z.via z.before (begins_live w u q c l z) in
        (b.0 ++ z.behind, after_both c z.before z.behind s b.0 z.code b.1))
