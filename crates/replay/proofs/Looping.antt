-- A replay, item after item.
use Rattle.std.proofs.Common.{◌≡◌, ℕ, suc, ◌+◌, ◌*◌, ◌<◌, ◌≤◌, false, cond, ◌&&◌, leb, List, [], ◌∷◌, ◌++◌, length, take, is_ok, is_some, IsSome, Some, None, Ok, Err, Option, Result, sym, refl, ap, ◌∙◌, subst, ap₂, inl, inr, arith, length-append}
use Rattle.fault.specs.declared.refusal.Fault.{Fault}
use Rattle.fault.specs.declared.cause.Cause.TheVariants.{NotAWalk}
use Rattle.alphabet.specs.Items.{first_read, last_read}
use Rattle.alphabet.specs.Meaning.{Meaning as Letters, Lawful}
use Rattle.pattern.specs.declared.step.Step.{Step}
use Rattle.pattern.specs.declared.pattern.Pattern.{Pattern}
use Rattle.pattern.specs.Patterns.{entry_of}
use Rattle.walk.specs.Graphs.{Points, none, ClassesBelow, graph_of}
use Rattle.walk.specs.Codes.{Code}
use Rattle.walk.proofs.Order.{never_both}
use Rattle.walk.proofs.Fuel.{left, left_add, left_bound}
use Rattle.sink.specs.Meaning.{Meaning, Stocks, take_answer, grown}
use Rattle.sink.specs.Handing.{moved_by, grown_by, taken_count, hand_answer}
use Rattle.sink.specs.Writing.{taken_items, position_then, stocks_then}
use Rattle.replay.specs.declared.played.Played.{Played}
use Rattle.replay.specs.declared.played.Played.TheVariants as played
use Rattle.replay.specs.Tracing.{Verdict, complete, broken}
use Rattle.replay.specs.Outcome.{reads_in, placed, answer, Replays}
use Rattle.replay.specs.Playing.{Stand, opened, ahead, Falls, Passed, Passes, stays, passes, Left, LeftSome, Tells, HandsOver, Halts, Over, Plays}
use Rattle.replay.proofs.Graphs.{end_of, end_small, start_within}
use Rattle.replay.specs.Courses.{Straight, still, hand, PlaybackComesAlike}
use Rattle.replay.proofs.Playing.{pass_within, some_in}
use Rattle.replay.proofs.Courses.{told_count, left_ended}

-- the answer after h items and n reads, where the sink takes all of the items c
abbrev full_from : ℕ → ℕ → Code → Verdict → Result ℕ Fault
full_from h n c complete = Ok (h + length c)
full_from h n c broken = Err (placed NotAWalk (n + reads_in c))

-- the answer after h items and n reads, from that of the sink to the items c
abbrev answer_from : ℕ → ℕ → Result (Unit {0}) Fault → Code → Code → Verdict → Result ℕ Fault
answer_from h n (Ok x) taken c v = full_from h n c v
answer_from h n (Err f) taken c v = Err (placed f.cause (n + reads_in taken))

-- one item handed to a sink

module _ (m : Meaning) (q : m.Position) (s : Stocks) (i : ℕ) (c : Code) where
  one_answer : (u : Unit {0}) → Ok u ≡ take_answer m q s i → hand_answer m q s (i ∷ c) ≡ hand_answer m (m.next q i) (grown m q s i) c
  one_answer u e = ap (λ (r : Result (Unit {0}) Fault). cond (is_ok r) (hand_answer m (m.next q i) (grown m q s i) c) r) (sym e)

  one_taken : (u : Unit {0}) → Ok u ≡ take_answer m q s i → taken_items m q s (i ∷ c) ≡ i ∷ taken_items m (m.next q i) (grown m q s i) c
  one_taken u e = ap (λ (r : Result (Unit {0}) Fault). take (cond (is_ok r) (suc (taken_count m (m.next q i) (grown m q s i) c)) 0) (i ∷ c)) (sym e)

  none_answer : (g : Fault) → Err g ≡ take_answer m q s i → hand_answer m q s (i ∷ c) ≡ Err g
  none_answer g e = ap (λ (r : Result (Unit {0}) Fault). cond (is_ok r) (hand_answer m (m.next q i) (grown m q s i) c) r) (sym e)

  none_taken : (g : Fault) → Err g ≡ take_answer m q s i → taken_items m q s (i ∷ c) ≡ []
  none_taken g e = ap (λ (r : Result (Unit {0}) Fault). take (cond (is_ok r) (suc (taken_count m (m.next q i) (grown m q s i) c)) 0) (i ∷ c)) (sym e)

answer_more : (h n n' i : ℕ) (a : Result (Unit {0}) Fault) (d c : Code) (v : Verdict) → n' ≡ n + reads_in (i ∷ []) →
    answer_from (h + 1) n' a d c v ≡ answer_from h n a (i ∷ d) (i ∷ c) v
answer_more h n n' i (Ok u) d c complete e = ap Ok (omega arith)
answer_more h n n' i (Ok u) d c broken e = ap (λ (k : ℕ). Err (placed NotAWalk k)) (count_more n n' (cond (leb first_read i && leb i last_read) 1 0) (reads_in c) e)
  where
    count_more : (n n' x y : ℕ) → n' ≡ n + (x + 0) → n' + y ≡ n + (x + y)
    count_more n n' x y e = omega arith
answer_more h n n' i (Err f) d c v e = ap (λ (k : ℕ). Err (placed f.cause k)) (count_more n n' (cond (leb first_read i && leb i last_read) 1 0) (reads_in d) e)
  where
    count_more : (n n' x y : ℕ) → n' ≡ n + (x + 0) → n' + y ≡ n + (x + y)
    count_more n n' x y e = omega arith

from_nothing : (a : Result (Unit {0}) Fault) (d c : Code) (v : Verdict) → answer_from 0 0 a d c v ≡ answer a d c v
from_nothing (Ok u) d c complete = ap Ok (omega arith)
from_nothing (Ok u) d c broken = ap (λ (k : ℕ). Err (placed NotAWalk k)) (omega arith)
from_nothing (Err f) d c v = ap (λ (k : ℕ). Err (placed f.cause k)) (omega arith)

module _ {Symbol : Type 0} (L : Letters Symbol) (at : ℕ → Step) (m : Meaning) where
  -- what a replay that has come to t, by h items, comes to
  pub record Comes (h : ℕ) (t : Stand Symbol) (q : m.Position) (s : Stocks) (r : Result ℕ Fault) (q' : m.Position) (s' : Stocks) : Type 0 where
    pub code : Code
    pub verdict : Verdict
    pub left_is : Left L at t code verdict
    pub answers : r ≡ answer_from h t.read (hand_answer m q s code) (taken_items m q s code) code verdict
    pub moved : q' ≡ position_then m q s code
    pub stocked : s' ≡ stocks_then m q s code

  comes_item : (h : ℕ) (t t' : Stand Symbol) (q q' : m.Position) (s s' : Stocks) (i : ℕ) → Ok tt ≡ take_answer m q s i → q' ≡ m.next q i → s' ≡ grown m q s i →
      t'.read ≡ t.read + reads_in (i ∷ []) → ((c : Code) (v : Verdict) → Left L at t' c v → Left L at t (i ∷ c) v) →
      (r : Result ℕ Fault) (q'' : m.Position) (s'' : Stocks) → Comes (h + 1) t' q' s' r q'' s'' → Comes h t q s r q'' s''
  comes_item h t t' q q' s s' i e eq es en lead r q'' s'' x =
      let c = x.code in
      let v = x.verdict in
      let q1 = m.next q i in
      let s1 = grown m q s i in
      let items = sym (one_taken m q s i c tt e) in
      record {
        code = i ∷ c;
        verdict = v;
        left_is = lead c v x.left_is;
        answers = x.answers
            ∙ ap₂ (λ (a : m.Position) (b : Stocks). answer_from (h + 1) t'.read (hand_answer m a b c) (taken_items m a b c) c v) eq es
            ∙ answer_more h t.read t'.read i (hand_answer m q1 s1 c) (taken_items m q1 s1 c) c v en
            ∙ ap₂ (λ (a : Result (Unit {0}) Fault) (d : Code). answer_from h t.read a d (i ∷ c) v) (sym (one_answer m q s i c tt e)) items;
        moved = x.moved ∙ ap₂ (λ (a : m.Position) (b : Stocks). moved_by m a (taken_items m a b c)) eq es ∙ ap (moved_by m q) items;
        stocked = x.stocked ∙ ap₂ (λ (a : m.Position) (b : Stocks). grown_by m a b (taken_items m a b c)) eq es ∙ ap (grown_by m q s) items;
      }

  -- an item is handed over: what it comes to then, it comes to from before
  comes_handed : Lawful L → (h : ℕ) (t t' : Stand Symbol) (q q' : m.Position) (s s' : Stocks) (x : Played) → HandsOver L at m t q s x t' q' s' →
      (r : Result ℕ Fault) (q'' : m.Position) (s'' : Stocks) → Comes (h + 1) t' q' s' r q'' s'' → Comes h t q s r q'' s''
  comes_handed law h t t' q q' s s' x y =
      comes_item h t t' q q' s s' y.item y.taken y.moved y.stocked
      (told_count L at m law x y.there t' y.item y.tells ∙ ap (λ (n : ℕ). n + reads_in (y.item ∷ [])) y.passed.read) y.leads

  comes_refused : (h : ℕ) (t : Stand Symbol) (q q' : m.Position) (s s' : Stocks) (i : ℕ) (c : Code) (v : Verdict) (f g : Fault) → Left L at t (i ∷ c) v → Err g ≡ take_answer m q s i →
      f ≡ placed g.cause t.read → q' ≡ q → s' ≡ s → Comes h t q s (Err f) q' s'
  comes_refused h t q q' s s' i c v f g x e ef eq es =
      let items = sym (none_taken m q s i c g e) in
      record {
        code = i ∷ c;
        verdict = v;
        left_is = x;
        answers = ap Err (ef ∙ ap (placed g.cause) (omega arith))
            ∙ ap₂ (λ (a : Result (Unit {0}) Fault) (d : Code). answer_from h t.read a d (i ∷ c) v) (sym (none_answer m q s i c g e)) items;
        moved = eq ∙ ap (moved_by m q) items;
        stocked = es ∙ ap (grown_by m q s) items;
      }

  -- a call refuses
  pub comes_halted : (h : ℕ) (t t' : Stand Symbol) (q q' : m.Position) (s s' : Stocks) (f : Fault) → LeftSome L at t → Halts L at m t q s f t' q' s' → Comes h t q s (Err f) q' s'
  comes_halted h t t' q q' s s' f some (inl x) =
      record { code = []; verdict = broken; left_is = x.left; answers = ap Err (x.fault ∙ ap (placed NotAWalk) (omega arith)); moved = x.stays; stocked = x.keeps }
  comes_halted h t t' q q' s s' f some (inr x) =
      let d = x.first some.0 some.1 some.2 in
      comes_refused h t q q' s s' x.item d.0 some.1 f x.by (subst (λ (c : Code). Left L at t c some.1) d.1 some.2) x.refused x.fault x.stays x.keeps

  -- the end mark is handed over
  pub comes_over : (h : ℕ) (t t' : Stand Symbol) (q q' : m.Position) (s s' : Stocks) → Over L at m t q s t' q' s' → Comes h t q s (Ok h) q' s'
  comes_over h t t' q q' s s' x =
      record { code = []; verdict = complete; left_is = left_ended L at m t.ended t x.ended; answers = ap Ok (omega arith); moved = x.stays; stocked = x.keeps }

  -- item after item
  comes_straight : Lawful L → {t t' : Stand Symbol} {q q' : m.Position} {s s' : Stocks} {d : Code} → Straight L at m t q s d t' q' s' →
      (h : ℕ) (r : Result ℕ Fault) (q'' : m.Position) (s'' : Stocks) → Comes (h + length d) t' q' s' r q'' s'' → Comes h t q s r q'' s''
  comes_straight law {t = t} {q = q} {s = s} still h r q'' s'' x = subst (λ (k : ℕ). Comes k t q s r q'' s'') (omega arith) x
  comes_straight law {t = t} {t' = t''} {q = q} {q' = q₂} {s = s} {s' = s₂} (hand {t' = t'} {q' = q'} {s' = s'} {c = c} y k z) h r q'' s'' x =
      comes_handed law h t t' q q' s s' y k r q'' s'' (comes_straight law z (h + 1) r q'' s'' (subst (λ (n : ℕ). Comes n t'' q₂ s₂ r q'' s'') (more_one h (length c)) x))
    where
      more_one : (h n : ℕ) → h + suc n ≡ h + 1 + n
      more_one h n = omega arith

  -- what is left when some items are handed over is something, if it was
  straight_some : {t t' : Stand Symbol} {q q' : m.Position} {s s' : Stocks} {d : Code} → Straight L at m t q s d t' q' s' → LeftSome L at t → LeftSome L at t'
  straight_some still x = x
  straight_some (hand y k z) x = let h = k.leaves x.0 x.1 x.2 in straight_some z (h.0, x.1, h.2)

module _ (P : Pattern) where
  passes_within : {a b : Points} {p q : ℕ} → Passes (graph_of P) a p b q → p ≤ end_of P → (q ≤ end_of P) × (left 256 b ≤ left 256 a)
  passes_within stays l = (l, omega arith)
  passes_within (passes {met = met} {p = p} {k = k} f e x) l =
      let i = passes_within x (pass_within P p k e) in (i.0, omega (arith, i.1, left_add 256 p met (omega (arith, end_small P)) f))

  module _ {Symbol : Type 0} (L : Letters Symbol) (m : Meaning) where
    passed_ahead : (t t' : Stand Symbol) → t.point ≤ end_of P → Passed L (graph_of P) t t' → ahead t' ≤ ahead t
    passed_ahead t t' l h = let w = passes_within h.way l in rw (h.symbols, h.ended) (omega (arith, w.1))

    told_falls : (x : Played) (t t' : Stand Symbol) (i : ℕ) → t.point ≤ end_of P → t.ended ≡ false → t.met t.point ≡ false → Tells L (graph_of P) x t i t' → ahead t' < ahead t
    told_falls (played.Branch p b) t t' i l g f h =
        let y = h.1 in
        let k = left_add 256 t.point t.met (omega (arith, end_small P)) f in
        rw (y.symbols, y.met, y.ended, g) (omega (arith, k))
    told_falls (played.Read p) t t' i l g f h =
        let y = h.1 in
        rw (y.symbols, y.met, y.ended, g) (omega (arith, left_bound 256 none))
    told_falls played.End t t' i l g f h = rw (h.symbols, h.none_left, h.met, h.ended, g) (omega arith)

    -- with each item less is ahead
    pub hands_falls : (t t' : Stand Symbol) (q q' : m.Position) (s s' : Stocks) (x : Played) → t.point ≤ end_of P → HandsOver L (graph_of P) m t q s x t' q' s' → ahead t' < ahead t
    hands_falls t t' q q' s s' x l h =
        let u = h.there in
        let w = passes_within h.passed.way l in
        let k = told_falls x u t' h.item w.0 (h.passed.ended ∙ h.going) h.fresh h.tells in
        omega (arith, k, passed_ahead t u l h.passed)

    -- and never more
    pub plays_falls : (t t' : Stand Symbol) (q q' : m.Position) (s s' : Stocks) (r : Result (Option Played) Fault) → t.point ≤ end_of P → Plays L (graph_of P) m t q s r t' q' s' → Falls r (ahead t) (ahead t')
    plays_falls t t' q q' s s' (Ok None) l h = rw h.same (omega arith)
    plays_falls t t' q q' s s' (Ok (Some x)) l h = hands_falls t t' q q' s s' x l h
    plays_falls t t' q q' s s' (Err f) l (inl h) = passed_ahead t t' l h.passed
    plays_falls t t' q q' s s' (Err f) l (inr h) = passed_ahead t t' l h.passed

module _ {Symbol : Type 0} (L : Letters Symbol) (P : Pattern) (bytes : List ℕ) (w : List Symbol) (m : Meaning) (q : m.Position) (s : Stocks) where
  pub led : ClassesBelow L.classes (graph_of P) → (r : Result ℕ Fault) (q' : m.Position) (s' : Stocks) → Comes L (graph_of P) m 0 (opened P bytes w) q s r q' s' → Replays L (graph_of P) (entry_of P) bytes w m q s r q' s'
  led known r q' s' x =
      inr (record {
        known = known;
        code = x.code;
        verdict = x.verdict;
        traces = x.left_is;
        outcome = record {
          answers = x.answers ∙ from_nothing (hand_answer m q s x.code) (taken_items m q s x.code) x.code x.verdict;
          moved = x.moved;
          stocked = x.stocked;
        };
      })

-- with nothing poured between, a playback comes to what a replay comes to
pub playback_comes_alike : {Symbol : Type 0} (L : Letters Symbol) (law : Lawful L) (P : Pattern) (m : Meaning) → PlaybackComesAlike L P m
playback_comes_alike L law P m known bytes w q q' s s' d t k = record {
  accepted = λ e.
      led L P bytes w m q s known (Ok (length d)) q' s'
      (comes_straight L (graph_of P) m law k 0 (Ok (length d)) q' s'
      (subst (λ (n : ℕ). Comes L (graph_of P) m (0 + length d) t q' s' (Ok n) q' s') (omega arith)
      (comes_over L (graph_of P) m (0 + length d) t t q' q' s' s' (record { ended = e; same = refl; stays = refl; keeps = refl }))));
  refused = λ f t'' q'' s'' x.
      led L P bytes w m q s known (Err f) q'' s''
      (comes_straight L (graph_of P) m law k 0 (Err f) q'' s''
      (comes_halted L (graph_of P) m (0 + length d) t t'' q' q'' s' s'' f (straight_some L (graph_of P) m k (some_in L P (opened P bytes w) (start_within P))) x));
}

-- a replay is a playback whose items are counted

pub falls_some : (o : Option Played) (n n' : ℕ) → IsSome o → Falls (Ok o) n n' → n' < n
falls_some (Some x) n n' e l = l
falls_some None n n' e l = absurd (never_both refl (sym e))

module _ {Symbol : Type 0} (L : Letters Symbol) (at : ℕ → Step) (m : Meaning) where
  way_on : {t t' : Stand Symbol} {q q' : m.Position} {s s' : Stocks} {d : Code} → Straight L at m t q s d t' q' s' →
      (t'' : Stand Symbol) (q'' : m.Position) (s'' : Stocks) (x : Played) (h : HandsOver L at m t' q' s' x t'' q'' s'') → Straight L at m t q s (d ++ (h.item ∷ [])) t'' q'' s''
  way_on still t'' q'' s'' x h = hand x h still
  way_on (hand y k z) t'' q'' s'' x h = hand y k (way_on z t'' q'' s'' x h)

module _ {Symbol : Type 0} (L : Letters Symbol) (P : Pattern) (bytes : List ℕ) (w : List Symbol) (m : Meaning) (q : m.Position) (s : Stocks) where
  -- what holds between two items: so many are handed over, and nothing else was done to the sink
  pub record Going (n : ℕ) (t : Stand Symbol) (q' : m.Position) (s' : Stocks) : Type 0 where
    pub items : Code
    pub way : Straight L (graph_of P) m (opened P bytes w) q s items t q' s'
    pub count : n ≡ length items
    pub bound : n + ahead t ≤ 257 * length w + 257

  pub going_first : (t : Stand Symbol) → t ≡ opened P bytes w → Going 0 t q s
  going_first t e = subst (λ (t : Stand Symbol). Going 0 t q s) (sym e) (record { items = []; way = still; count = refl; bound = omega (arith, left_bound 256 none) })

  -- a call of the playback, by the alphabet and the pattern that it holds
  module _ (L' : Letters Symbol) (P' : Pattern) (same : L' ≡ L) (alike : P' ≡ P) (n : ℕ) (t t' : Stand Symbol) (q' q'' : m.Position) (s' s'' : Stocks) (g : Going n t q' s') where
    called : (r : Result (Option Played) Fault) → Plays L' (graph_of P') m t q' s' r t' q'' s'' → Plays L (graph_of P) m t q' s' r t' q'' s''
    called r x = subst (λ (Z : Letters Symbol). Plays Z (graph_of P) m t q' s' r t' q'' s'') same (subst (λ (Z : Pattern). Plays L' (graph_of Z) m t q' s' r t' q'' s'') alike x)

    -- it handed an item over
    pub going_next : (o : Option Played) → IsSome o → Plays L' (graph_of P') m t q' s' (Ok o) t' q'' s'' → Falls (Ok o) (ahead t) (ahead t') → Going (n + 1) t' q'' s''
    going_next None e x l = absurd (never_both refl (sym e))
    going_next (Some y) e x l =
        let h : HandsOver L (graph_of P) m t q' s' y t' q'' s'' = called (Ok (Some y)) x in
        record { items = g.items ++ (h.item ∷ []); way = way_on L (graph_of P) m g.way t' q'' s'' y h; count = omega (arith, g.count, length-append g.items (h.item ∷ [])); bound = omega (arith, g.bound, l) }

    -- the end mark was handed over before
    pub going_ends : Lawful L → ClassesBelow L.classes (graph_of P) → (o : Option Played) → is_some o ≡ false → Plays L' (graph_of P') m t q' s' (Ok o) t' q'' s'' →
        Replays L (graph_of P) (entry_of P) bytes w m q s (Ok n) q'' s''
    going_ends law known (Some y) e x = absurd (never_both refl e)
    going_ends law known None e x =
        let h : Over L (graph_of P) m t q' s' t' q'' s'' = called (Ok None) x in
        rw (g.count, h.stays, h.keeps) ((playback_comes_alike L law P m known bytes w q q' s s' g.items t g.way).accepted h.ended)

    -- it refused
    pub going_halts : Lawful L → ClassesBelow L.classes (graph_of P) → (r : Result ℕ Fault) (f : Fault) → r ≡ Err f → Halts L' (graph_of P') m t q' s' f t' q'' s'' →
        Replays L (graph_of P) (entry_of P) bytes w m q s r q'' s''
    going_halts law known r f e x =
        rw e ((playback_comes_alike L law P m known bytes w q q' s s' g.items t g.way).refused f t' q'' s'' (called (Err f) x))
