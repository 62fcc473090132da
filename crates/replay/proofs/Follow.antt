-- What a replay comes to, in the words of walks.
use Rattle.std.proofs.Common.{◌≡◌, ℕ, suc, ◌+◌, ◌≤◌, Bool, true, cond, eqb, ltb, ◌⊎◌, List, [], ◌∷◌, ◌++◌, length, take, drop, is_ok, Ok, Err, Result, sym, refl, ap, ◌∙◌, subst, ap₂, inl, inr, arith, length-append, take-append-drop}
use Rattle.fault.specs.declared.refusal.Fault.{Fault}
use Rattle.fault.specs.declared.cause.Cause.TheVariants.{NotAWalk}
use Rattle.alphabet.specs.Items.{end_mark, first_read, second_branch}
use Rattle.alphabet.specs.Choices.{choices, packed}
use Rattle.alphabet.specs.Meaning.{Meaning as Letters}
use Rattle.pattern.specs.declared.step.Step.{Step}
use Rattle.pattern.specs.declared.step.Step.TheVariants.{End}
use Rattle.pattern.specs.declared.pattern.Pattern.{Pattern}
use Rattle.pattern.specs.Expressions.{Expr, size}
use Rattle.pattern.specs.Points.{start, step_at}
use Rattle.pattern.specs.Patterns.{entry_of, Is}
use Rattle.pattern.proofs.Tables.{length_table}
use Rattle.walk.specs.Graphs.{steps, none, ClassesBelow, graph_of, LacksClass}
use Rattle.walk.specs.Codes.{Code, Begins}
use Rattle.walk.specs.Walks.{Allowed}
use Rattle.walk.specs.Theorems.{GreedyIn}
use Rattle.walk.proofs.Pieces.{allowed_path, path_allowed}
use Rattle.sink.specs.Meaning.{Meaning, Stocks, take_answer, grown}
use Rattle.sink.specs.Handing.{moved_by, grown_by, taken_count, hand_answer, all_taken}
use Rattle.sink.specs.Writing.{taken_items}
use Rattle.sink.proofs.Filing.{all_items}
use Rattle.replay.specs.Bits.{Bytes, bits_of}
use Rattle.replay.specs.Tracing.{Verdict, complete, broken, Traces}
use Rattle.replay.specs.Outcome.{reads_in, placed, answer, Outcome, Barred, Led, Replays}
use Rattle.replay.specs.Theorems.{marked, Filed, Took, Follows, FollowsAll, WalksIn, Walks, ReplayOne, TraceComputed, TracesSome}
use Rattle.replay.proofs.Graphs.{LeadsWithin, end_of, end_small, leads_within, start_within, only_end, is_end}
use Rattle.replay.proofs.Tracing.{tracing}
use Rattle.replay.proofs.Packing.{unpacked, packs}
use Rattle.replay.proofs.Telling.{one_trace, tells, traced}
use Rattle.replay.proofs.Walked.{walked, traces_way, way_within}

-- lists

snoc_same : (c d : Code) (x : ℕ) → c ++ (x ∷ []) ≡ d ++ (x ∷ []) → c ≡ d
snoc_same [] [] x e = refl
snoc_same [] (y ∷ []) x e = let z : ◌≡◌ {A = ℕ} 0 1 = cc in absurd (omega arith)
snoc_same [] (y ∷ (u ∷ d)) x e = let z : ◌≡◌ {A = ℕ} 0 1 = cc in absurd (omega arith)
snoc_same (y ∷ []) [] x e = let z : ◌≡◌ {A = ℕ} 0 1 = cc in absurd (omega arith)
snoc_same (y ∷ (u ∷ c)) [] x e = let z : ◌≡◌ {A = ℕ} 0 1 = cc in absurd (omega arith)
snoc_same (y ∷ c) (u ∷ d) x e =
    let h : c ++ (x ∷ []) ≡ d ++ (x ∷ []) = cc in
    let i : y ≡ u = cc in
    let j : c ≡ d = snoc_same c d x h in
    cc

-- the end mark gives no bit
pub choices_marked : (c : Code) → choices (marked c) ≡ choices c
choices_marked [] = refl
choices_marked (i ∷ c) = ap (λ (b : List Bool). cond (ltb i first_read) (eqb i second_branch ∷ b) b) (choices_marked c)

pub length_marked : (c : Code) → length (marked c) ≡ length c + 1
length_marked c = length-append c (end_mark ∷ [])

-- what is taken is taken

all_of : (a b : Result (Unit {0}) Fault) → is_ok a ≡ true → is_ok b ≡ true → is_ok (cond (is_ok a) b a) ≡ true
all_of (Ok x) b h k = k
all_of (Err f) b h k = h

taken_one : (m : Meaning) (p : m.Position) (s : Stocks) (x : ℕ) (xs : Code) → all_taken m (m.next p x) (grown m p s x) (taken_items m (m.next p x) (grown m p s x) xs) ≡ true →
    (a : Result (Unit {0}) Fault) → take_answer m p s x ≡ a →
    all_taken m p s (take (cond (is_ok a) (suc (taken_count m (m.next p x) (grown m p s x) xs)) 0) (x ∷ xs)) ≡ true
taken_one m p s x xs h (Ok u) e =
    all_of (take_answer m p s x) (hand_answer m (m.next p x) (grown m p s x) (taken_items m (m.next p x) (grown m p s x) xs)) (ap is_ok e) h
taken_one m p s x xs h (Err f) e = refl

taken_all : (m : Meaning) (p : m.Position) (s : Stocks) (xs : Code) → all_taken m p s (taken_items m p s xs) ≡ true
taken_all m p s [] = refl
taken_all m p s (x ∷ xs) = taken_one m p s x xs (taken_all m (m.next p x) (grown m p s x) xs) (take_answer m p s x) refl

-- answers

accepted_by : (a : Result (Unit {0}) Fault) (d c : Code) (v : Verdict) (n : ℕ) → Ok n ≡ answer a d c v → (is_ok a ≡ true) × (v ≡ complete) × (n ≡ length c)
accepted_by (Ok u) d c complete n e = let k : n ≡ length c = cc in (refl, refl, k)
accepted_by (Ok u) d c broken n e = let z : ◌≡◌ {A = ℕ} 0 1 = cc in absurd (omega arith)
accepted_by (Err f) d c v n e = let z : ◌≡◌ {A = ℕ} 0 1 = cc in absurd (omega arith)

full_complete : (a : Result (Unit {0}) Fault) (d c : Code) (v : Verdict) → is_ok a ≡ true → v ≡ complete → answer a d c v ≡ Ok (length c)
full_complete (Ok u) d c complete h e = refl
full_complete (Ok u) d c broken h e = let z : ◌≡◌ {A = ℕ} 0 1 = cc in absurd (omega arith)
full_complete (Err f) d c v h e = let z : ◌≡◌ {A = ℕ} 0 1 = cc in absurd (omega arith)

full_broken : (a : Result (Unit {0}) Fault) (d c : Code) (v : Verdict) → is_ok a ≡ true → v ≡ broken → answer a d c v ≡ Err (placed NotAWalk (reads_in c))
full_broken (Ok u) d c complete h e = let z : ◌≡◌ {A = ℕ} 0 1 = cc in absurd (omega arith)
full_broken (Ok u) d c broken h e = refl
full_broken (Err f) d c v h e = let z : ◌≡◌ {A = ℕ} 0 1 = cc in absurd (omega arith)

not_ok : (r : Result ℕ Fault) → ((n : ℕ) → r ≡ Ok n → ⊥) → (f : Fault) × (r ≡ Err f)
not_ok (Ok n) h = absurd (h n refl)
not_ok (Err f) h = (f, refl)

-- a complete outcome of items that are all taken
pub outcome_whole : (m : Meaning) (p : m.Position) (s : Stocks) (c : Code) (r : Result ℕ Fault) (p' : m.Position) (s' : Stocks) → Outcome m p s c complete r p' s' → all_taken m p s c ≡ true →
    (r ≡ Ok (length c)) × (p' ≡ moved_by m p c) × (s' ≡ grown_by m p s c)
outcome_whole m p s c r p' s' o h = (
  o.answers ∙ full_complete (hand_answer m p s c) (taken_items m p s c) c complete h refl,
  o.moved ∙ ap (moved_by m p) (all_items m p s c h),
  o.stocked ∙ ap (grown_by m p s) (all_items m p s c h),
)

either_verdict : (v : Verdict) → (v ≡ complete) ⊎ (v ≡ broken)
either_verdict complete = inl refl
either_verdict broken = inr refl

-- the graph of a pattern is that of its expression

pub record SoundGraph (at : ℕ → Step) (from end : ℕ) : Type 0 where
  pub within : (p : ℕ) → LeadsWithin end (at p)
  pub start : from ≤ end
  pub only : (q : ℕ) → q ≤ end → at q ≡ End → q ≡ end
  pub is_end : at end ≡ End

module _ (P : Pattern) (e : Expr) (h : Is P e) where
  same_graph : graph_of P ≡ steps e
  same_graph = ap step_at h.points

  same_end : end_of P ≡ size e
  same_end = ap length h.points ∙ length_table e 0 (size e) 0

  sound_graph : SoundGraph (steps e) (start e) (size e)
  sound_graph =
      subst (λ (n : ℕ). SoundGraph (steps e) (start e) n) same_end
      (subst (λ (n : ℕ). SoundGraph (steps e) n (end_of P)) h.entry
      (subst (λ (at : ℕ → Step). SoundGraph at (entry_of P) (end_of P)) same_graph
      (record { within = leads_within P; start = start_within P; only = only_end P; is_end = is_end P })))

  module _ {Symbol : Type 0} (L : Letters Symbol) where
    pub replays_in : (bytes : List ℕ) (w : List Symbol) (m : Meaning) (p : m.Position) (s : Stocks) (r : Result ℕ Fault) (p' : m.Position) (s' : Stocks) →
        Replays L (graph_of P) (entry_of P) bytes w m p s r p' s' → Replays L (steps e) (start e) bytes w m p s r p' s'
    replays_in bytes w m p s r p' s' x =
        subst (λ (n : ℕ). Replays L (steps e) n bytes w m p s r p' s') h.entry
        (subst (λ (at : ℕ → Step). Replays L at (entry_of P) bytes w m p s r p' s') same_graph x)

-- the bytes of an allowed walk to an end point trace its code
pub walk_traces : {Symbol : Type 0} (L : Letters Symbol) (at : ℕ → Step) (from end : ℕ) → at end ≡ End → (bytes : List ℕ) (w : List Symbol) (c : Code) →
    Allowed L at from w end c → bytes ≡ packed (choices c) → Traces L at (bits_of bytes) w none from (marked c) complete
walk_traces L at from end k bytes w c walk packs =
    let u = unpacked (choices c) in
    traces_way L at (allowed_path L at walk) k (bits_of bytes) u.rest (ap bits_of packs ∙ u.bits) u.filling

module _ {Symbol : Type 0} (L : Letters Symbol) (e : Expr) (sound : SoundGraph (steps e) (start e) (size e)) where
  filed_traces : (bytes : List ℕ) (w : List Symbol) (c : Code) → Filed L e bytes w c → Traces L (steps e) (bits_of bytes) w none (start e) (marked c) complete
  filed_traces bytes w c f = walk_traces L (steps e) (start e) (size e) sound.is_end bytes w c f.walk f.packs

  -- and what is traced to the end is such a walk
  traces_filed : (bytes : List ℕ) → Bytes bytes → (w : List Symbol) (cs : Code) (v : Verdict) → Traces L (steps e) (bits_of bytes) w none (start e) cs v → v ≡ complete →
      (c : Code) × Filed L e bytes w c × (cs ≡ marked c)
  traces_filed bytes each w cs v x k =
      let t = walked L (steps e) x k in
      let l = sound.only t.last (way_within L (steps e) (size e) sound.within t.way sound.start) t.end in
      let path = subst (λ (q : ℕ). Allowed L (steps e) (start e) w q t.code) l (path_allowed L (steps e) t.way) in
      (t.code, record { walk = path; packs = packs bytes (choices t.code) t.rest each t.bits t.filling }, t.marked)

  module _ (bytes : List ℕ) (w : List Symbol) (m : Meaning) (p : m.Position) (s : Stocks) (r : Result ℕ Fault) (p' : m.Position) (s' : Stocks) (each : Bytes bytes)
      (x : Led L (steps e) (start e) bytes w m p s r p' s') where
    -- the bytes of a walk are traced as its code
    traced_so : (c : Code) → Filed L e bytes w c → (x.code ≡ marked c) × (x.verdict ≡ complete)
    traced_so c f = one_trace L (steps e) (bits_of bytes) w none (start e) x.code (marked c) x.verdict complete x.traces (filed_traces bytes w c f)

    took_all : (d : Code) → x.code ≡ d → all_taken m p s x.code ≡ true → Took L e bytes w m p s r p' s' d
    took_all d k h = record {
      taken = ap (all_taken m p s) (sym k) ∙ h;
      moved = x.outcome.moved ∙ ap (moved_by m p) (all_items m p s x.code h ∙ k);
      stocked = x.outcome.stocked ∙ ap (grown_by m p s) (all_items m p s x.code h ∙ k);
    }

    outcome_so : (c : Code) → Filed L e bytes w c → Outcome m p s (marked c) complete r p' s'
    outcome_so c f =
        let h = traced_so c f in
        subst (λ (v : Verdict). Outcome m p s (marked c) v r p' s') h.1 (subst (λ (d : Code). Outcome m p s d x.verdict r p' s') h.0 x.outcome)

    pub accepted_so : (n : ℕ) → r ≡ Ok n → (c : Code) × Filed L e bytes w c × (n ≡ length c + 1) × Took L e bytes w m p s r p' s' (marked c)
    accepted_so n k =
        let h = accepted_by (hand_answer m p s x.code) (taken_items m p s x.code) x.code x.verdict n (sym k ∙ x.outcome.answers) in
        let t = traces_filed bytes each w x.code x.verdict x.traces h.1 in
        (t.0, t.1, h.2 ∙ ap length t.2 ∙ length_marked t.0, took_all (marked t.0) t.2 h.0)

    begins_so : (c : Code) → Filed L e bytes w c → (d : Code) × Begins (marked c) d × Took L e bytes w m p s r p' s' d × ((n : ℕ) → r ≡ Ok n → d ≡ marked c)
    begins_so c f =
        let o = outcome_so c f in
        let k = taken_count m p s (marked c) in (
          taken_items m p s (marked c),
          (drop k (marked c), sym (take-append-drop k (marked c))),
          record { taken = taken_all m p s (marked c); moved = o.moved; stocked = o.stocked },
          λ n i. all_items m p s (marked c) (accepted_by (hand_answer m p s (marked c)) (taken_items m p s (marked c)) (marked c) complete n (sym i ∙ o.answers)).0,
        )

    pub follows : Follows L e bytes w m p s r p' s'
    follows = record {
      accepted = accepted_so;
      hands = outcome_so;
      begins = begins_so;
      otherwise = λ none_such. not_ok r (λ n k. let t = accepted_so n k in none_such t.0 t.1);
      one = λ c d f g. snoc_same c d end_mark (sym (traced_so c f).0 ∙ (traced_so d g).0);
    }

    module _ (all : all_taken m p s x.code ≡ true) where
      hands_so : (c : Code) → Filed L e bytes w c → (r ≡ Ok (length c + 1)) × Took L e bytes w m p s r p' s' (marked c)
      hands_so c f =
          let h = traced_so c f in (
            x.outcome.answers ∙ full_complete (hand_answer m p s x.code) (taken_items m p s x.code) x.code x.verdict all h.1 ∙ ap Ok (ap length h.0 ∙ length_marked c),
            took_all (marked c) h.0 all,
          )

      broken_so : ((c : Code) → Filed L e bytes w c → ⊥) → x.verdict ≡ broken
      broken_so none_such =
          elim (either_verdict x.verdict) [
            | inl b ↦
                let t = accepted_so _ (x.outcome.answers ∙ full_complete (hand_answer m p s x.code) (taken_items m p s x.code) x.code x.verdict all b) in
                absurd (none_such t.0 t.1)
            | inr b ↦ b
          ]

      greedy_so : (g : Code) → GreedyIn L e w g → bytes ≡ packed (choices g) → (r ≡ Ok (length g)) × Took L e bytes w m p s r p' s' g
      greedy_so g walk k =
          let c = walk.0 in
          let o = hands_so c (record { walk = walk.1.0; packs = k ∙ ap (λ (d : Code). packed (choices d)) walk.2 ∙ ap packed (choices_marked c) }) in
          (o.0 ∙ ap Ok (sym (length_marked c) ∙ ap length (sym walk.2)), subst (Took L e bytes w m p s r p' s') (sym walk.2) o.1)

      pub follows_all : FollowsAll L e bytes w m p s r p' s'
      follows_all = record {
        exactly = (λ i. let t = accepted_so i.0 i.1 in (t.0, t.1), λ f. (length f.0 + 1, (hands_so f.0 f.1).0));
        hands = hands_so;
        otherwise = λ none_such.
            (reads_in x.code, x.outcome.answers ∙ full_broken (hand_answer m p s x.code) (taken_items m p s x.code) x.code x.verdict all (broken_so none_such));
        greedy = greedy_so;
      }

ok_err : {X : Type 0} (r : Result ℕ Fault) (n : ℕ) (f : Fault) → r ≡ Ok n → r ≡ Err f → X
ok_err r n f x y = let z : ◌≡◌ {A = ℕ} 0 1 = cc in absurd (omega arith)

-- a class is known or not
not_unknown : (count : ℕ) (at : ℕ → Step) → ClassesBelow count at → LacksClass count at → ⊥
not_unknown count at known u = let l = known u.0 u.1 u.2 u.3 in omega (arith, l, u.4)

pub known_not : {Symbol : Type 0} (L : Letters Symbol) (at : ℕ → Step) (m : Meaning) (p : m.Position) (s : Stocks) (r : Result ℕ Fault) (p' : m.Position) (s' : Stocks) →
    ClassesBelow L.classes at → Barred at L.classes m p s r p' s' → ⊥
known_not L at m p s r p' s' known x = not_unknown L.classes at known x.unknown

module _ {Symbol : Type 0} (L : Letters Symbol) (P : Pattern) where
  pub replay_walks : (bytes : List ℕ) (w : List Symbol) (m : Meaning) (p : m.Position) (s : Stocks) (r : Result ℕ Fault) (p' : m.Position) (s' : Stocks) →
      Bytes bytes → Replays L (graph_of P) (entry_of P) bytes w m p s r p' s' → Walks L P bytes w m p s r p' s'
  replay_walks bytes w m p s r p' s' each x e h = go (replays_in P e h L bytes w m p s r p' s' x)
    where
      go : Replays L (steps e) (start e) bytes w m p s r p' s' → WalksIn L e bytes w m p s r p' s'
      go (inl y) = record {
        unknown = λ u. (y.answers, y.stays, y.keeps);
        any = λ known. absurd (known_not L (steps e) m p s r p' s' known y);
        all = λ known k. absurd (known_not L (steps e) m p s r p' s' known y);
      }
      go (inr y) = record {
        unknown = λ u. absurd (not_unknown L.classes (steps e) y.known u);
        any = λ known. follows L e (sound_graph P e h) bytes w m p s r p' s' each y;
        all = λ known k. follows_all L e (sound_graph P e h) bytes w m p s r p' s' each y (k y.code y.verdict y.traces);
      }

  -- what an accepted replay handed over
  pub replay_accepted : (e : Expr) → Is P e → (bytes : List ℕ) → Bytes bytes → (w : List Symbol) (m : Meaning) (p : m.Position) (s : Stocks) (r : Result ℕ Fault) (p' : m.Position) (s' : Stocks) →
      Replays L (graph_of P) (entry_of P) bytes w m p s r p' s' → (n : ℕ) → r ≡ Ok n → (c : Code) × Filed L e bytes w c × (n ≡ length c + 1) × Took L e bytes w m p s r p' s' (marked c)
  replay_accepted e h bytes each w m p s r p' s' x n k = go (replays_in P e h L bytes w m p s r p' s' x)
    where
      go : Replays L (steps e) (start e) bytes w m p s r p' s' → (c : Code) × Filed L e bytes w c × (n ≡ length c + 1) × Took L e bytes w m p s r p' s' (marked c)
      go (inl y) = ok_err r n _ k y.answers
      go (inr y) = accepted_so L e (sound_graph P e h) bytes w m p s r p' s' each y n k

  pub replay_one : (m : Meaning) → ReplayOne L P m
  replay_one m bytes w p s r t p' p'' s' s'' (inl x) (inl y) = (x.answers ∙ sym y.answers, x.stays ∙ sym y.stays, x.keeps ∙ sym y.keeps)
  replay_one m bytes w p s r t p' p'' s' s'' (inl x) (inr y) = absurd (known_not L (graph_of P) m p s r p' s' y.known x)
  replay_one m bytes w p s r t p' p'' s' s'' (inr x) (inl y) = absurd (known_not L (graph_of P) m p s t p'' s'' x.known y)
  replay_one m bytes w p s r t p' p'' s' s'' (inr x) (inr y) =
      let h = one_trace L (graph_of P) (bits_of bytes) w none (entry_of P) x.code y.code x.verdict y.verdict x.traces y.traces in (
        x.outcome.answers ∙ ap₂ (λ (c : Code) (v : Verdict). answer (hand_answer m p s c) (taken_items m p s c) c v) h.0 h.1 ∙ sym y.outcome.answers,
        x.outcome.moved ∙ ap (λ (c : Code). moved_by m p (taken_items m p s c)) h.0 ∙ sym y.outcome.moved,
        x.outcome.stocked ∙ ap (λ (c : Code). grown_by m p s (taken_items m p s c)) h.0 ∙ sym y.outcome.stocked,
      )

  pub traces_some : TracesSome L P
  traces_some bs w = tracing L (graph_of P) (end_of P) (end_small P) (leads_within P) bs w none (entry_of P) (start_within P)

pub trace_computed : {Symbol : Type 0} (L : Letters Symbol) → TraceComputed L
trace_computed L at bs w met p c v = (λ x. tells L at x, λ t. traced L at t.0 bs w met p c v (t.1 t.0 (omega arith)))
