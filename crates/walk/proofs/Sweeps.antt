-- One symbol more: the list of live walks after it.
use Rattle.std.proofs.Common.{◌≡◌, ℕ, true, false, List, [], ◌∷◌, ◌++◌, sym, refl, ap, ◌∙◌, inl, inr}
use Rattle.alphabet.specs.Meaning.{Meaning}
use Rattle.alphabet.specs.Items.{read_item}
use Rattle.pattern.specs.declared.step.Step.{Step}
use Rattle.pattern.specs.declared.step.Step.TheVariants.{Read}
use Rattle.walk.specs.Graphs.{Points, rests, none}
use Rattle.walk.specs.Codes.{Code, Earlier}
use Rattle.walk.proofs.Stages.{Stretch}
use Rattle.walk.specs.Search.{Reached, In, after, Ordered, Sweep, done, taken, dropped}
use Rattle.walk.proofs.Order.{two_ways, never_both, earlier_asym, earlier_grows, earlier_cancel}
use Rattle.walk.proofs.Order.{in_left, in_right, in_either, in_after, in_before, ordered_after, ordered_append}
use Rattle.walk.proofs.Stretches.{Within, Closed, fresh_within, closed_ends, search_keeps, search_marks, search_closed, search_sound, search_complete, search_ordered, search_earliest}

module _ {Symbol : Type 0} (L : Meaning Symbol) (at : ℕ → Step) (a : Symbol) where
  pub nothing_within : (M : Points) → Within none M
  nothing_within M k h = absurd (never_both h refl)

  -- where a walk of the new list comes from
  pub record Source (ls : List Reached) (q : ℕ) (c : Code) : Type 0 where
    pub via : ℕ
    pub before : Code
    pub class : ℕ
    pub next : ℕ
    pub behind : Code
    pub old : In via before ls
    pub is : at via ≡ Read class next
    pub takes : L.belongs class a ≡ true
    pub stretch : Stretch at none next q behind
    pub code : c ≡ (before ++ (read_item (L.number a) ∷ [])) ++ behind

  later : (ls : List Reached) (r : Reached) (q : ℕ) (c : Code) → Source ls q c → Source (r ∷ ls) q c
  later ls r q c s = record {
    via = s.via;
    before = s.before;
    class = s.class;
    next = s.next;
    behind = s.behind;
    old = inr s.old;
    is = s.is;
    takes = s.takes;
    stretch = s.stretch;
    code = s.code;
  }

  pub sweep_keeps : {M : Points} {ls rs : List Reached} {N : Points} → Sweep L at a M ls rs N → Within M N
  sweep_keeps done k m = m
  sweep_keeps (taken e b s t) k m = sweep_keeps t k (search_keeps at s k m)
  sweep_keeps (dropped f t) k m = sweep_keeps t k m

  pub sweep_closed : {M : Points} {ls rs : List Reached} {N : Points} → Sweep L at a M ls rs N → Closed at none M → Closed at none N
  sweep_closed done cl = cl
  sweep_closed {M} (taken e b s t) cl = sweep_closed t (search_closed at none s (nothing_within M) cl)
  sweep_closed (dropped f t) cl = sweep_closed t cl

  pub sweep_marks : {M : Points} {ls rs : List Reached} {N : Points} → Sweep L at a M ls rs N →
      (r : ℕ) (c : Code) (class k : ℕ) → In r c ls → at r ≡ Read class k → L.belongs class a ≡ true → N k ≡ true
  sweep_marks done r c class k i e b = absurd i
  sweep_marks (taken {r = r'} {k = k'} e' b' s t) r c class k (inl i) e b =
      let j : at r ≡ at r'.point = ap at i.0 in
      let h : k ≡ k' = cc in
      rw h (sweep_keeps t k' (search_marks at s))
  sweep_marks (taken e' b' s t) r c class k (inr i) e b = sweep_marks t r c class k i e b
  sweep_marks (dropped {r = r'} f t) r c class k (inl i) e b = absurd (f class k (sym (ap at i.0) ∙ e) b)
  sweep_marks (dropped f t) r c class k (inr i) e b = sweep_marks t r c class k i e b

  pub sweep_complete : {M : Points} {ls rs : List Reached} {N : Points} → Sweep L at a M ls rs N →
      (q : ℕ) → rests (at q) ≡ true → M q ≡ false → N q ≡ true → (c : Code) × In q c rs
  sweep_complete done q r m n = absurd (never_both n m)
  sweep_complete (taken {N = N} {r = u} {rs = rs} {ss = ss} e b s t) q r m n =
      elim (two_ways (N q)) [
        | inl h ↦
            let i = search_complete at s q r m h in
            let x : Code = u.code ++ (read_item (L.number a) ∷ []) in
            (x ++ i.0, in_left q (x ++ i.0) (after x rs) ss (in_after q i.0 x rs i.1))
        | inr h ↦
            let i = sweep_complete t q r h n in
            (i.0, in_right q i.0 (after (u.code ++ (read_item (L.number a) ∷ [])) rs) ss i.1)
      ]
  sweep_complete (dropped f t) q r m n = sweep_complete t q r m n

  pub sweep_sound : {M : Points} {ls rs : List Reached} {N : Points} → Sweep L at a M ls rs N →
      (q : ℕ) (c : Code) → In q c rs → (M q ≡ false) × Source ls q c
  sweep_sound done q c i = absurd i
  sweep_sound {M} (taken {N = N} {r = u} {class = class} {k = k} {ls = ls} {rs = rs} {ss = ss} e b s t) q c i =
      elim (in_either q c (after (u.code ++ (read_item (L.number a) ∷ [])) rs) ss i) [
        | inl j ↦
            let x = in_before q c (u.code ++ (read_item (L.number a) ∷ [])) rs j in
            let h = search_sound at none s (nothing_within M) q x.0 x.2 in (
              h.0,
              record {
                via = u.point;
                before = u.code;
                class = class;
                next = k;
                behind = x.0;
                old = inl (refl, refl);
                is = e;
                takes = b;
                stretch = h.2;
                code = x.1;
              },
            )
        | inr j ↦
            let h = sweep_sound t q c j in
            (fresh_within at M N q (search_keeps at s) h.0, later ls u q c h.1)
      ]
  sweep_sound (dropped {r = u} {ls = ls} f t) q c i = let h = sweep_sound t q c i in (h.0, later ls u q c h.1)

  pub sweep_ordered : {M : Points} {ls rs : List Reached} {N : Points} → Sweep L at a M ls rs N → Ordered ls → Ordered rs
  sweep_ordered done o = o
  sweep_ordered (taken {r = u} {ls = ls} {rs = rs} {ss = ss} e b s t) o =
      let x : Code = u.code ++ (read_item (L.number a) ∷ []) in
      ordered_append (after x rs) ss (ordered_after x rs (search_ordered at s)) (sweep_ordered t o.1)
      (λ q c r d i j.
      let y = in_before q c x rs i in
      let z = (sweep_sound t r d j).1 in
      let l : Code = z.before ++ (read_item (L.number a) ∷ []) in
      rw (y.1, z.code) (earlier_grows x l y.0 z.behind
      (earlier_grows u.code z.before (read_item (L.number a) ∷ []) (read_item (L.number a) ∷ []) (o.0 z.via z.before z.old))))
  sweep_ordered (dropped f t) o = sweep_ordered t o.1

  -- none of the walks that go on from the old list is earlier
  pub sweep_earliest : {M : Points} {ls rs : List Reached} {N : Points} → Sweep L at a M ls rs N → Ordered ls → Closed at none M →
      (q : ℕ) (c d : Code) → In q c rs → Source ls q d → Earlier d c → ⊥
  sweep_earliest done o cl q c d i z l = i
  sweep_earliest {M} (taken {N = N} {r = u} {k = k} {ls = ls} {rs = rs} {ss = ss} e b s t) o cl q c d i z l =
      let x : Code = u.code ++ (read_item (L.number a) ∷ []) in
      let cl' = search_closed at none s (nothing_within M) cl in
      elim (in_either q c (after x rs) ss i) [
        | inl j ↦
            let y = in_before q c x rs j in
            elim z.old [
              | inl h ↦
                  let m : at z.via ≡ at u.point = ap at h.0 in
                  let n : z.next ≡ k = cc in
                  search_earliest at none s (nothing_within M) cl q y.0 z.behind y.2 (rw n at z.stretch)
                  (earlier_cancel x z.behind y.0 (rw (y.1, z.code, h.1) at l))
              | inr h ↦
                  earlier_asym d c l (rw (y.1, z.code) (earlier_grows x (z.before ++ (read_item (L.number a) ∷ [])) y.0 z.behind
                  (earlier_grows u.code z.before (read_item (L.number a) ∷ []) (read_item (L.number a) ∷ []) (o.0 z.via z.before h))))
            ]
        | inr j ↦
            elim z.old [
              | inl h ↦
                  let m : at z.via ≡ at u.point = ap at h.0 in
                  let n : z.next ≡ k = cc in
                  never_both (closed_ends at none N cl' (λ v g. g) (search_marks at s) (rw n at z.stretch)) (sweep_sound t q c j).0
              | inr h ↦
                  sweep_earliest t o.1 cl' q c d j
                  (record {
                    via = z.via;
                    before = z.before;
                    class = z.class;
                    next = z.next;
                    behind = z.behind;
                    old = h;
                    is = z.is;
                    takes = z.takes;
                    stretch = z.stretch;
                    code = z.code;
                  }) l
            ]
      ]
  sweep_earliest (dropped {r = u} f t) o cl q c d i z l =
      elim z.old [
        | inl h ↦ f z.class z.next (sym (ap at h.0) ∙ z.is) z.takes
        | inr h ↦
            sweep_earliest t o.1 cl q c d i
            (record {
              via = z.via;
              before = z.before;
              class = z.class;
              next = z.next;
              behind = z.behind;
              old = h;
              is = z.is;
              takes = z.takes;
              stretch = z.stretch;
              code = z.code;
            }) l
      ]
