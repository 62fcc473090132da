-- The calls by what is held.
use Rattle.std.proofs.Common.{◌≡◌, ℕ, suc, ◌+◌, ◌-◌, ◌<◌, ◌≤◌, true, false, ◌≢◌, List, [], ◌∷◌, ◌++◌, map, reverse, length, Some, Option, sym, refl, ap, ◌∙◌, subst, inl, inr, ⊎_elim, append_assoc, arith}
use mathlib.Core.List.Memᴰ
use mathlib.Core.List.{reverse-cons, reverse-append, reverse-reverse, Memᴰ}
use lib.ListN.{length-map}
use Rattle.std.proofs.lemmas.Bool.{cases_eq, both_ways}
use Rattle.tree.specs.declared.table.Table.{Table}
use Rattle.tree.specs.declared.paths.PathTree.{PathTree}
use Rattle.tree.specs.Limits.{capacity, first_slot}
use Rattle.tree.specs.Sound.{par, item_of, uses_of, below_of, held_of, Sound, Up, top, step}
use Rattle.tree.proofs.Moves.{Ready, Sole, Grew, LetGo, Shifted, UpShares, Fresh}
use Rattle.tree.specs.declared.refusal.Refusal.{Refusal}
use Rattle.tree.specs.declared.refusal.Refusal.TheVariants.{NotHeld, Full, Present, Forked}
use Rattle.tree.specs.Next.{Stands, Child, Leads, Pair, Vetted, Bars}
use Rattle.tree.specs.declared.table.Next.TheVariants.{Only}
use Rattle.std.specs.Option.{option_to_list}
use Rattle.tree.specs.Prefixes.{Once, Counts, Beginning}
use Rattle.tree.specs.Held.{Held, Holder, Unheld, room, Start, New, Follows, Parts, Addable, Says, Added, Released, Taken, NoneShared}
use Rattle.tree.proofs.Counting.{descend, path, path_up, strip, up_same, up_injective, counted, head, tail}
use Rattle.tree.proofs.Loose.{positive, in_table, some_used}
use Rattle.tree.proofs.Out.{sound_out}

-- what the type of a tree says
pub sound_of : (t : PathTree) → Sound 0 t.table
sound_of t = sound_out t.table t.sound

pub rev_mid : (xs : List ℕ) (x : ℕ) (ys : List ℕ) → reverse (xs ++ (x ∷ ys)) ≡ reverse ys ++ (x ∷ reverse xs)
rev_mid xs x ys = reverse-append xs (x ∷ ys) ∙ ap (λ (z : List ℕ). z ++ reverse xs) (reverse-cons x ys) ∙ append_assoc (reverse ys) (x ∷ []) (reverse xs)

rev_cons_is : (xs ys : List ℕ) (x : ℕ) → reverse xs ≡ ys ++ (x ∷ []) → xs ≡ x ∷ reverse ys
rev_cons_is xs ys x e = sym (reverse-reverse xs) ∙ ap reverse e ∙ rev_mid ys x []

-- a holder has one path
pub held_same : (t : PathTree) (i : ℕ) (xs ys : List ℕ) → Held t i xs → Held t i ys → xs ≡ ys
held_same t i xs ys h g = sym (reverse-reverse xs) ∙ ap reverse (up_same t.table (sound_of t) h.1 g.1) ∙ reverse-reverse ys

-- and a path has one holder
pub held_once : (t : PathTree) (i j : ℕ) (xs : List ℕ) → Held t i xs → Held t j xs → i ≡ j
held_once t i j xs h g = up_injective t.table (sound_of t) h.1 g.1 refl

-- every slot marked as held has a path
pub held_path : (t : PathTree) (i : ℕ) → held_of t.table i ≡ true → Holder t i
held_path t i h =
    let S = sound_of t in
    let w = path_up t.table S i (S.shape.holders i h) in
    record { path = reverse (path t.table S i); held = (h, subst (Up t.table i) (sym (reverse-reverse (path t.table S i))) w) }

pub not_held : (t : PathTree) (i : ℕ) → held_of t.table i ≡ false → Unheld t i
not_held t i e xs h = both_ways (held_of t.table i) e h.0

module _ (t : PathTree) where
  abbrev T : Table
  T = t.table

  S : Sound 0 T
  S = sound_of t

  above : {c : ℕ} {zs : List ℕ} → Up T c zs → (x : ℕ) (xs : List ℕ) → zs ≡ x ∷ xs → (c ≢ T.root) × Up T (par T c) xs × (item_of T c ≡ x)
  above top x xs e = absurd (let l = ap length e in omega (arith, l))
  above (step c ys u n w) x xs e = (n, subst (Up T (par T c)) (ap tail e) w, ap head e)

  -- what follows the path of p stands in a child of p
  pub child_of : (p x : ℕ) → Follows t p x → (c : ℕ) × (Child T p c × (item_of T c ≡ x))
  child_of p x F =
      let w = subst (Up T F.entry) (rev_mid F.path x F.rest) F.beyond.1 in
      let a = strip T S (reverse F.rest) (x ∷ reverse F.path) w refl in
      let b = above a.1 x (reverse F.path) refl in
      (a.0, ((b.0, up_injective T S b.1 F.held.1 refl), b.2))

  -- and a child has a holder at or below it
  pub follows_of : (p c : ℕ) → held_of T p ≡ true → Child T p c → Follows t p (item_of T c)
  follows_of p c h k =
      let u = S.shape.holders p h in
      let w = path_up T S p u in
      let us = path T S p in
      let p_pos = positive 0 T S p u in
      let cu : 0 < par T c = rw k.1 p_pos in
      let v : Up T c (item_of T c ∷ us) = step c us cu k.0 (subst (λ (j : ℕ). Up T j us) (sym k.1) w) in
      let d = descend T S (suc S.shape.top) c (item_of T c ∷ us) (omega arith) v k.0 in
      let q : reverse (reverse us ++ (item_of T c ∷ reverse d.1)) ≡ d.1 ++ (item_of T c ∷ us) =
      rev_mid (reverse us) (item_of T c) (reverse d.1) ∙ ap (λ (z : List ℕ). z ++ (item_of T c ∷ reverse (reverse us))) (reverse-reverse d.1) ∙ ap (λ (z : List ℕ). d.1 ++ (item_of T c ∷ z)) (reverse-reverse us) in
      record {
        path = reverse us;
        held = (h, subst (Up T p) (sym (reverse-reverse us)) w);
        entry = d.0;
        rest = reverse d.1;
        beyond = (d.2, subst (Up T d.0) (sym q) d.3);
      }

  pub addable : (p x : ℕ) → Vetted T p x → Addable t p x
  addable p x V = record {
    holder = held_path t p V.held;
    some = V.some;
    absent = λ F. let c = child_of p x F in V.absent c.0 c.1.0 c.1.1;
    single = λ y z F G.
        let c = child_of p y F in
        let d = child_of p z G in
        sym c.1.1 ∙ ap (item_of T) (V.single c.0 d.0 c.1.0 d.1.0) ∙ d.1.1;
  }

  pub parts : (p : ℕ) → held_of T p ≡ true → Pair T p → Parts t p
  parts p h D = record {
    one = item_of T D.one;
    other = item_of T D.other;
    differ = λ e. D.differ (S.shape.apart D.one D.other (rw D.first.1 (positive 0 T S p (S.shape.holders p h))) D.first.0 D.second.0 (D.first.1 ∙ sym D.second.1) e);
    first = follows_of p D.one h D.first;
    second = follows_of p D.other h D.second;
  }

  pub present : (p x c : ℕ) → held_of T p ≡ true → Child T p c → item_of T c ≡ x → ((i : ℕ) → Child T p i → i ≡ c) → Follows t p x × ((y : ℕ) → Follows t p y → y ≡ x)
  present p x c h k e only = (
    subst (Follows t p) e (follows_of p c h k),
    λ y F. let d = child_of p y F in sym d.1.1 ∙ ap (item_of T) (only d.0 d.1.0) ∙ e,
  )

  pub added : (p x r : ℕ) (t' : PathTree) → Vetted T p x → Grew T p x r t'.table → Added t p x r t'
  added p x r t' V A = record {
    could = addable p x V;
    inside = in_table 0 t'.table A.sound r (A.sound.shape.holders r A.held);
    left = A.left;
    fresh = λ xs h. let u = S.shape.holders r h.0 in let z = A.fresh in omega (arith, u, z);
    new = λ xs h. (A.held, subst (Up t'.table r) (sym (rev_mid xs x [])) (A.path (reverse xs) h.1));
    old = λ i xs h. (still i h.0, A.paths i (reverse xs) h.1);
    only = λ i xs h. ⊎_elim (λ (e : i ≡ r). inl e) (λ (n : i ≢ r). inr (was i n xs h)) (cases_eq i r);
  }
    where
      still : (i : ℕ) → held_of T i ≡ true → held_of t'.table i ≡ true
      still i h = ⊎_elim (λ (e : i ≡ r). ap (held_of t'.table) e ∙ A.held) (λ (n : i ≢ r). A.holders i n ∙ h) (cases_eq i r)

      was : (i : ℕ) → i ≢ r → (xs : List ℕ) → Held t' i xs → Held t i xs
      was i n xs h =
          let g = sym (A.holders i n) ∙ h.0 in
          let w = path_up T S i (S.shape.holders i g) in
          (g, subst (Up T i) (up_same t'.table A.sound (A.paths i (path T S i) w) h.1) w)

  once_map : (xss : List (List ℕ)) → Once xss → Once (map reverse xss)
  once_map [] o = tt
  once_map (xs ∷ xss) o = (λ m. let q = Memᴰ.of_map reverse xss m in o.0 (subst (λ (z : List ℕ). Memᴰ z xss) (sym (reverse-reverse q.0) ∙ ap reverse q.2 ∙ reverse-reverse xs) q.1), once_map xss o.1)

  starts : (n : ℕ) → Counts (Beginning T) n → Counts (Start t) n
  starts n C = record {
    each = map reverse C.each;
    once = once_map C.each C.once;
    those = those;
    all = all;
    many = length-map C.each reverse ∙ C.many;
  }
    where
      those : (xs : List ℕ) → Memᴰ xs (map reverse C.each) → Start t xs
      those xs m =
          let q = Memᴰ.of_map reverse C.each m in
          let b = C.those q.0 q.1 in
          let e : q.0 ≡ reverse xs = sym (reverse-reverse q.0) ∙ ap reverse q.2 in
          record {
            some = λ z. b.some (e ∙ ap reverse z);
            entry = b.entry;
            rest = reverse b.rest;
            held = (b.held, subst (Up T b.entry) (sym (reverse-append xs (reverse b.rest) ∙ ap (λ (z : List ℕ). z ++ reverse xs) (reverse-reverse b.rest) ∙ ap (λ (z : List ℕ). b.rest ++ z) (sym e))) b.path);
          }

      all : (xs : List ℕ) → Start t xs → Memᴰ xs (map reverse C.each)
      all xs s =
          let m = C.all (reverse xs) (record {
            some = λ z. s.some (sym (reverse-reverse xs) ∙ ap reverse z);
            entry = s.entry;
            rest = reverse s.rest;
            held = s.held.0;
            path = subst (Up T s.entry) (reverse-append xs s.rest) s.held.1;
          }) in
          subst (λ (z : List ℕ). Memᴰ z (map reverse C.each)) (reverse-reverse xs) (Memᴰ.map reverse m)

  -- an entry is in use for each different non-empty beginning of a held path, and for nothing else
  pub counted_starts : (n : ℕ) → n + room t ≡ capacity → Counts (Start t) n
  counted_starts n e = let u = some_used 0 T S in let f = S.filled in starts n (counted T S n (omega (arith, e, u, f)))

  pub room_bound : room t ≤ capacity
  room_bound = let u = some_used 0 T S in let f = S.filled in omega (arith, u, f)

  pub taken : (x : ℕ) (t' : PathTree) → Shifted T x t'.table → Taken t x t'
  taken x t' R = record {
    shares = record { slot = R.slot; holder = held_path t R.slot R.some; all = λ i xs h. let q = began i xs h in (q.0, q.1) };
    rest = λ i xs h. let q = began i (x ∷ xs) h in subst (Held t' i) (sym (ap tail q.1)) q.2;
    only = only;
    shared = λ zs Z. record {
      all = λ i xs h. let q = began i xs h in let z = Z.all i q.0 q.2 in (z.0, q.1 ∙ ap (λ (l : List ℕ). x ∷ l) z.1);
      longest = λ y f. Z.longest y (λ i xs h. let q = f i (x ∷ xs) (only i xs h) in (q.0, ap tail q.1));
    };
    left = R.left;
  }
    where
      not_root : (i : ℕ) → held_of T i ≡ true → i ≢ T.root
      not_root i h e = both_ways (held_of T T.root) R.empty (sym (ap (held_of T) e) ∙ h)

      began : (i : ℕ) (xs : List ℕ) → Held t i xs → (ys : List ℕ) × (xs ≡ x ∷ ys) × Held t' i ys
      began i xs h =
          let q = R.paths i (reverse xs) h.1 (not_root i h.0) in
          (reverse q.0, rev_cons_is xs q.0 x q.1, (R.held i ∙ h.0, subst (Up t'.table i) (sym (reverse-reverse q.0)) q.2))

      only : (i : ℕ) (ys : List ℕ) → Held t' i ys → Held t i (x ∷ ys)
      only i ys h =
          let g = sym (R.held i) ∙ h.0 in
          let w = path_up T S i (S.shape.holders i g) in
          let q = R.paths i (path T S i) w (not_root i g) in
          let e = up_same t'.table R.sound q.2 h.1 in
          (g, subst (Up T i) (q.1 ∙ ap (λ (z : List ℕ). z ++ (x ∷ [])) e ∙ sym (reverse-cons x ys)) w)

  pub none_shared : ((i x : ℕ) → held_of T i ≡ true → UpShares T x → ⊥) → NoneShared t
  none_shared never = record {
    never = λ x H. none H.slot x H.holder.held.0 H.all;
    shared = λ i H. record { all = λ k xs h. (xs, refl); longest = λ x f. none i x H.held.0 f };
  }
    where
      none : (i x : ℕ) → held_of T i ≡ true → ((k : ℕ) (xs : List ℕ) → Held t k xs → (ys : List ℕ) × (xs ≡ x ∷ ys)) → ⊥
      none i x h s = never i x h (λ k xs g w.
          let q = s k (reverse xs) (g, subst (Up T k) (sym (reverse-reverse xs)) w) in
          (reverse q.0, sym (reverse-reverse xs) ∙ ap reverse q.1 ∙ reverse-cons x q.0))

pub released : (t : PathTree) (i : ℕ) (t' : PathTree) → held_of t.table i ≡ true → LetGo t.table i t'.table → Released t i t'
released t i t' h0 R = record {
  holder = held_path t i h0;
  gone = gone;
  old = λ k xs n h. let g = R.holders k n ∙ h.0 in (g, R.paths k (reverse xs) h.1 (R.sound.shape.holders k g));
  only = λ k xs h.
      let n : k ≢ i = λ e. gone xs (subst (λ (j : ℕ). Held t' j xs) e h) in
      let g = sym (R.holders k n) ∙ h.0 in
      let w = path_up t.table (sound_of t) k ((sound_of t).shape.holders k g) in
      (g, subst (Up t.table k) (up_same t'.table R.sound (R.paths k (path t.table (sound_of t) k) w (R.sound.shape.holders k h.0)) h.1) w);
  counts = counted_starts t';
  left = R.room;
}
  where
    gone : (xs : List ℕ) → Held t' i xs → ⊥
    gone xs h = both_ways (held_of t'.table i) R.loose h.0

-- a new tree holds the empty path alone
pub fresh_new : (t : PathTree) → Fresh t.table → New t
fresh_new t F = record {
  held = held;
  only = λ i xs h. let e = alone i xs h in (e, held_same t i xs [] h (subst (λ (j : ℕ). Held t j []) (sym e) held));
  left = F.alone;
}
  where
    held : Held t first_slot []
    held = subst (λ (i : ℕ). Held t i []) F.root (F.held, F.path)

    alone : (i : ℕ) (xs : List ℕ) → Held t i xs → i ≡ first_slot
    alone i xs h = ⊎_elim (λ (e : i ≡ t.table.root). e ∙ F.root) (λ n. absurd (both_ways (held_of t.table i) (F.holders i n) h.0)) (cases_eq i t.table.root)

-- ---- answers

-- what bars an entry, by what is held
pub says : (t : PathTree) (p x : ℕ) (f : Refusal) → Bars t.table p x f → Says t p x f
says t p x NotHeld b = not_held t p b
says t p x Full b = (held_path t p b.0, b.1)
says t p x Present b =
    let q = present t p x b.2.0 b.0 b.2.1.0 b.2.1.1 b.2.1.2 in
    (held_path t p b.0, b.1, q.0, q.1)
says t p x Forked b = (held_path t p b.0, b.1, parts t p b.0 b.2)

-- no refusal says anything of what can be added
pub barred : (t : PathTree) (p x : ℕ) (f : Refusal) → Says t p x f → Addable t p x → ⊥
barred t p x NotHeld s A = s A.holder.path A.holder.held
barred t p x Full s A = let h = A.some in let e = s.1 in omega (arith, h, e)
barred t p x Present s A = A.absent s.2
barred t p x Forked s A = s.2.differ (A.single s.2.one s.2.other s.2.first s.2.second)

-- ---- what the calls have found

-- `add`, when it has vetted the item and taken a free slot
pub ready : (t : PathTree) {p x s : ℕ} {o : Option ℕ} {rest : List ℕ} → t.table.spare.items ≡ rest ++ option_to_list o → o ≡ Some s → Vetted t.table p x → Ready t.table p x s rest
ready t {rest = rest} e f V = record { sound = sound_of t; spare = e ∙ ap (λ (o : Option ℕ). rest ++ option_to_list o) f; vetted = V }

-- `take_first`, when it has found the root's only child
pub sole : (t : PathTree) {c : ℕ} → Leads t.table t.table.root (Only c) → Stands (uses_of t.table t.table.root - 1) (below_of t.table t.table.root - t.table.root) (Only c) → false ≡ held_of t.table t.table.root → Sole t.table c
sole t l s h = record { sound = sound_of t; leads = l; counts = s; loose = sym h }
