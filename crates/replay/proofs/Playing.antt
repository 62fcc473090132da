-- One point of a playback, and the points up to its next item.
use Rattle.std.proofs.Common.{◌≡◌, ℕ, ◌+◌, ◌<◌, ◌≤◌, Bool, true, false, cond, ◌↔◌, List, [], ◌∷◌, length, drop, set, replicate, is_none, Some, None, Ok, Err, Option, Result, sym, refl, ap, ◌∙◌, subst, ap₂, inl, inr, arith, length-drop}
use Rattle.std.proofs.lemmas.List.{drop_all}
use Rattle.std.specs.Option.{unwrap_or}
use Rattle.fault.specs.declared.refusal.Fault.{Fault}
use Rattle.fault.specs.declared.cause.Cause.TheVariants.{NotAWalk}
use Rattle.alphabet.specs.Items.{first_branch, second_branch, end_mark}
use Rattle.alphabet.specs.Meaning.{Meaning as Letters}
use Rattle.pattern.specs.declared.step.Step.{Step}
use Rattle.pattern.specs.declared.step.Step.TheVariants.{Read, Pass, Fork, End}
use Rattle.pattern.specs.declared.pattern.Pattern.{Pattern}
use Rattle.pattern.specs.Patterns.{entry_of, points_of}
use Rattle.point_set.specs.declared.set.PointSet.{PointSet}
use Rattle.point_set.specs.Members.{members}
use Rattle.walk.specs.Graphs.{Points, none, add, graph_of}
use Rattle.walk.specs.Codes.{Code}
use Rattle.walk.proofs.Fuel.{left_add}
use Rattle.walk.proofs.Order.{never_both}
use Rattle.sink.specs.Meaning.{Meaning, Stocks, take_answer, grown}
use Rattle.replay.specs.declared.played.Played.{Played}
use Rattle.replay.specs.declared.played.Played.TheVariants as played
use Rattle.replay.specs.declared.cursor.Cursor.{Cursor}
use Rattle.replay.specs.Unread.{unread}
use Rattle.replay.specs.Bits.{bits_of, Filling}
use Rattle.replay.specs.Tracing.{Verdict, complete, broken, Traces, again, over, first, second, no_bit, reads, ends, symbols_left, bits_left}
use Rattle.replay.specs.Outcome.{placed}
use Rattle.replay.specs.Stepping.{met_of, next_item, Hands}
use Rattle.replay.specs.Playing.{Stand, stand, Passes, stays, passes, LeftBy, Left, LeftSome, Passed, Tells, HandsOver, Halts, Skips, Steps, Plays, opened}
use Rattle.replay.proofs.Graphs.{LeadsWithin, end_of, end_small, leads_within, only_end}
use Rattle.replay.proofs.Tracing.{tracing}
use Rattle.replay.proofs.Telling.{one_trace}
use Rattle.replay.proofs.Turning.{inserted, cleared, drop_next, Reading, refused_item, reading_breaks}

abbrev pub sd : {Symbol : Type 0} → List Bool → List Symbol → Points → ℕ → ℕ → Bool → Stand Symbol
sd bs u met p n z = record { bits = bs; symbols = u; met = met; point = p; read = n; ended = z }

-- a pattern's links lead to points of it or to its end

pub fork_within : (P : Pattern) (p : ℕ) (b : Bool) (x y : ℕ) → graph_of P p ≡ Fork x y → cond b y x ≤ end_of P
fork_within P p true x y e = (subst (LeadsWithin (end_of P)) e (leads_within P p)).1
fork_within P p false x y e = (subst (LeadsWithin (end_of P)) e (leads_within P p)).0

pub read_within : (P : Pattern) (p class k : ℕ) → graph_of P p ≡ Read class k → k ≤ end_of P
read_within P p class k e = subst (LeadsWithin (end_of P)) e (leads_within P p)

pub pass_within : (P : Pattern) (p k : ℕ) → graph_of P p ≡ Pass k → k ≤ end_of P
pass_within P p k e = subst (LeadsWithin (end_of P)) e (leads_within P p)

passes_on : {at : ℕ → Step} {a b c : Points} {p q r : ℕ} → Passes at a p b q → Passes at b q c r → Passes at a p c r
passes_on stays y = y
passes_on (passes f e x) y = passes f e (passes_on x y)

module _ {Symbol : Type 0} (L : Letters Symbol) (at : ℕ → Step) where
  -- only one thing is left
  one_by : (b : Bool) (t : Stand Symbol) (c d : Code) (u v : Verdict) → LeftBy L at b t c u → LeftBy L at b t d v → (c ≡ d) × (u ≡ v)
  one_by true t c d u v x y = (x.0 ∙ sym y.0, x.1 ∙ sym y.1)
  one_by false t c d u v x y = one_trace L at t.bits t.symbols t.met t.point c d u v x y

  pub one_left : (t : Stand Symbol) (c d : Code) (u v : Verdict) → Left L at t c u → Left L at t d v → (c ≡ d) × (u ≡ v)
  one_left t = one_by t.ended t

  -- so what leads to a state can be followed from it
  leaves_by : (t t' : Stand Symbol) (i : ℕ) → ((c : Code) (v : Verdict) → Left L at t' c v → Left L at t (i ∷ c) v) → LeftSome L at t' →
      (c : Code) (v : Verdict) → Left L at t c v → (d : Code) × (c ≡ i ∷ d) × Left L at t' d v
  leaves_by t t' i lead x c v y =
      let h = one_left t c (i ∷ x.0) v x.1 y (lead x.0 x.1 x.2) in
      (x.0, h.0, subst (λ (z : Verdict). Left L at t' x.0 z) (sym h.1) x.2)

  same_by : (t t' : Stand Symbol) → ((c : Code) (v : Verdict) → Left L at t' c v → Left L at t c v) → LeftSome L at t' → (c : Code) (v : Verdict) → Left L at t c v ↔ Left L at t' c v
  same_by t t' lead x c v = (
    λ y.
        let h = one_left t c x.0 v x.1 y (lead x.0 x.1 x.2) in
        subst (λ (z : Verdict). Left L at t' c z) (sym h.1) (subst (λ (z : Code). Left L at t' z x.1) (sym h.0) x.2),
    lead c v,
  )

  pub passed_none : (t : Stand Symbol) → Passed L at t t
  passed_none t = record { way = stays; bits = refl; symbols = refl; read = refl; ended = refl; same = λ c v. (λ x. x, λ x. x) }

  pub passed_on : (t u t' : Stand Symbol) → Passed L at t u → Passed L at u t' → Passed L at t t'
  passed_on t u t' x y = record {
    way = passes_on x.way y.way;
    bits = y.bits ∙ x.bits;
    symbols = y.symbols ∙ x.symbols;
    read = y.read ∙ x.read;
    ended = y.ended ∙ x.ended;
    same = λ c v. (λ h. (y.same c v).0 ((x.same c v).0 h), λ h. (x.same c v).1 ((y.same c v).1 h));
  }

  -- a choice or a star, by its bit
  fork_way : (b : Bool) (bs : List Bool) (u : List Symbol) (met : Points) (p x y : ℕ) (c : Code) (v : Verdict) → met p ≡ false → at p ≡ Fork x y → Traces L at bs u (add p met) (cond b y x) c v →
      Traces L at (b ∷ bs) u met p (cond b second_branch first_branch ∷ c) v
  fork_way true bs u met p x y c v i e z = second i e z
  fork_way false bs u met p x y c v i e z = first i e z

  -- something is left at the end point
  left_over : (bs : List Bool) (w : List Symbol) (n : ℕ) (met : Points) (p : ℕ) → met p ≡ false → at p ≡ End → ((length w ≤ n) × Filling bs → ⊥) → Traces L at bs (drop n w) met p [] broken
  left_over bs w n met p i e k = go (drop n w) refl
    where
      go : (u : List Symbol) → drop n w ≡ u → Traces L at bs u met p [] broken
      go [] d = bits_left i e (λ b. k (omega (arith, length-drop n w, ap length d), b))
      go (x ∷ u) d = symbols_left i e

  module _ (m : Meaning) where
    -- the ways of a turn, from what is left
    hands_by : (t t' : Stand Symbol) (x : Played) (i : ℕ) (q q' : m.Position) (s s' : Stocks) (o : Unit {0}) → t.ended ≡ false → t.met t.point ≡ false → Tells L at x t i t' →
        Ok o ≡ take_answer m q s i → q' ≡ m.next q i → s' ≡ grown m q s i → ((c : Code) (v : Verdict) → Left L at t' c v → Left L at t (i ∷ c) v) → LeftSome L at t' →
        HandsOver L at m t q s x t' q' s'
    hands_by t t' x i q q' s s' o g f h e eq es lead some = record {
      going = g;
      there = t;
      passed = passed_none t;
      fresh = f;
      item = i;
      tells = h;
      taken = e;
      moved = eq;
      stocked = es;
      leads = lead;
      leaves = leaves_by t t' i lead some;
    }

    breaks_by : (t : Stand Symbol) (q q' : m.Position) (s s' : Stocks) (f : Fault) → t.ended ≡ false → Left L at t [] broken → f ≡ placed NotAWalk t.read → q' ≡ q → s' ≡ s →
        Halts L at m t q s f t q' s'
    breaks_by t q q' s s' f g x e eq es = inl (record { passed = passed_none t; fault = e; going = g; left = x; only = λ c v y. one_left t c [] v broken y x; stays = eq; keeps = es })

    refuses_by : (t : Stand Symbol) (q q' : m.Position) (s s' : Stocks) (f by : Fault) (i : ℕ) (c : Code) (v : Verdict) → t.ended ≡ false → Left L at t (i ∷ c) v →
        Err by ≡ take_answer m q s i → f ≡ placed by.cause t.read → q' ≡ q → s' ≡ s → Halts L at m t q s f t q' s'
    refuses_by t q q' s s' f by i c v g x r e eq es =
        inr (record { passed = passed_none t; item = i; by = by; refused = r; fault = e; going = g; first = λ d u y. (c, (one_left t d (i ∷ c) u v y x).0); stays = eq; keeps = es })

    -- points passed freely from t to u, with nothing done to the sink; once the end mark is handed over there are none
    pub record Sought (t : Stand Symbol) (q : m.Position) (s : Stocks) (u : Stand Symbol) (r : m.Position) (z : Stocks) : Type 0 where
      pub passed : Passed L at t u
      pub stays : r ≡ q
      pub keeps : z ≡ s
      pub over : u.ended ≡ true → u ≡ t

    pub sought_first : (t : Stand Symbol) (q : m.Position) (s : Stocks) → Sought t q s t q s
    sought_first t q s = record { passed = passed_none t; stays = refl; keeps = refl; over = λ _. refl }

    module _ (t u t' : Stand Symbol) (q r q' : m.Position) (s z s' : Stocks) (x : Sought t q s u r z) where
      answered : (i : ℕ) → take_answer m r z i ≡ take_answer m q s i
      answered i = ap₂ (λ (a : m.Position) (b : Stocks). take_answer m a b i) x.stays x.keeps

      pub sought_on : u.ended ≡ false → Skips L at m u r z t' q' s' → Sought t q s t' q' s'
      sought_on e h = record {
        passed = passed_on t u t' x.passed h.passed;
        stays = h.stays ∙ x.stays;
        keeps = h.keeps ∙ x.keeps;
        over = λ f. absurd (never_both f (h.passed.ended ∙ e));
      }

      pub sought_hands : (y : Played) → HandsOver L at m u r z y t' q' s' → HandsOver L at m t q s y t' q' s'
      sought_hands y h = record {
        going = sym x.passed.ended ∙ h.going;
        there = h.there;
        passed = passed_on t u h.there x.passed h.passed;
        fresh = h.fresh;
        item = h.item;
        tells = h.tells;
        taken = h.taken ∙ answered h.item;
        moved = h.moved ∙ ap (λ (a : m.Position). m.next a h.item) x.stays;
        stocked = h.stocked ∙ ap₂ (λ (a : m.Position) (b : Stocks). grown m a b h.item) x.stays x.keeps;
        leads = λ c v l. (x.passed.same (h.item ∷ c) v).1 (h.leads c v l);
        leaves = λ c v l. h.leaves c v ((x.passed.same c v).0 l);
      }

      pub sought_halts : (f : Fault) → Halts L at m u r z f t' q' s' → Halts L at m t q s f t' q' s'
      sought_halts f (inl h) = inl (record {
        passed = passed_on t u t' x.passed h.passed;
        fault = h.fault ∙ ap (placed NotAWalk) x.passed.read;
        going = sym x.passed.ended ∙ h.going;
        left = (x.passed.same [] broken).1 h.left;
        only = λ c v y. h.only c v ((x.passed.same c v).0 y);
        stays = h.stays ∙ x.stays;
        keeps = h.keeps ∙ x.keeps;
      })
      sought_halts f (inr h) = inr (record {
        passed = passed_on t u t' x.passed h.passed;
        item = h.item;
        by = h.by;
        refused = h.refused ∙ answered h.item;
        fault = h.fault ∙ ap (placed h.by.cause) x.passed.read;
        going = sym x.passed.ended ∙ h.going;
        first = λ c v y. h.first c v ((x.passed.same c v).0 y);
        stays = h.stays ∙ x.stays;
        keeps = h.keeps ∙ x.keeps;
      })

    -- what a turn or a call tells, by its answer

    pub steps_skips : (t t' : Stand Symbol) (q q' : m.Position) (s s' : Stocks) (o : Option Played) → o ≡ None → Steps L at m t q s (Ok o) t' q' s' → Skips L at m t q s t' q' s'
    steps_skips t t' q q' s s' None e x = x
    steps_skips t t' q q' s s' (Some y) e x = let z : ◌≡◌ {A = ℕ} 0 1 = cc in absurd (omega arith)

    pub steps_hands : (t t' : Stand Symbol) (q q' : m.Position) (s s' : Stocks) (o : Option Played) (y : Played) → o ≡ Some y → Steps L at m t q s (Ok o) t' q' s' → HandsOver L at m t q s y t' q' s'
    steps_hands t t' q q' s s' o y e x = let h : Steps L at m t q s (Ok (Some y)) t' q' s' = rw e at x in h

    pub steps_refused : (t t' : Stand Symbol) (q q' : m.Position) (s s' : Stocks) (r : Result (Option Played) Fault) (f : Fault) → r ≡ Err f → Halts L at m t q s f t' q' s' → Steps L at m t q s r t' q' s'
    steps_refused t t' q q' s s' r f e x = rw e x

    pub next_refused : (t t' : Stand Symbol) (q q' : m.Position) (s s' : Stocks) (r : Result (Option Played) Fault) (f : Fault) → r ≡ Err f → Halts L at m t q s f t' q' s' → Plays L at m t q s r t' q' s'
    next_refused t t' q q' s s' r f e x = rw e x

-- a cursor with a point at hand
pub stands_at : {Symbol : Type 0} (P : Pattern) (h : Cursor) (w : List Symbol) (p : ℕ) → h.at ≡ Some p → stand P h w ≡ sd (unread h.bits) (drop h.read w) (met_of h.met) p h.read false
stands_at P h w p e = ap (λ (a : Option ℕ). sd (unread h.bits) (drop h.read w) (met_of h.met) (unwrap_or a (length (points_of P))) h.read (is_none a)) e

pub stands_within : (P : Pattern) (a : Option ℕ) → unwrap_or a 0 ≤ end_of P → unwrap_or a (length (points_of P)) ≤ end_of P
stands_within P None h = omega arith
stands_within P (Some p) h = h

-- where a playback begins
pub stands_open : {Symbol : Type 0} (P : Pattern) (bytes : List ℕ) (w : List Symbol) (h : Cursor) → unread h.bits ≡ bits_of bytes → met_of h.met ≡ none → h.at ≡ Some (entry_of P) → h.read ≡ 0 →
    stand P h w ≡ opened P bytes w
stands_open P bytes w h eb em ep en = stands_at P h w (entry_of P) ep ∙ rw (eb, em, en) refl

-- something is left wherever a playback of a pattern stands

traced_in : {Symbol : Type 0} (L : Letters Symbol) (P : Pattern) (bs : List Bool) (w : List Symbol) (met : Points) (p : ℕ) → p ≤ end_of P → (c : Code) × (v : Verdict) × Traces L (graph_of P) bs w met p c v
traced_in L P = tracing L (graph_of P) (end_of P) (end_small P) (leads_within P)

some_by : {Symbol : Type 0} (L : Letters Symbol) (P : Pattern) (b : Bool) (t : Stand Symbol) → t.point ≤ end_of P → (c : Code) × (v : Verdict) × LeftBy L (graph_of P) b t c v
some_by L P true t l = ([], complete, (refl, refl))
some_by L P false t l = traced_in L P t.bits t.symbols t.met t.point l

pub some_in : {Symbol : Type 0} (L : Letters Symbol) (P : Pattern) (t : Stand Symbol) → t.point ≤ end_of P → LeftSome L (graph_of P) t
some_in L P t l = some_by L P t.ended t l

-- a point at hand is worked

module _ {Symbol : Type 0} (L : Letters Symbol) (P : Pattern) (m : Meaning) (h : Cursor) (w : List Symbol) (p : ℕ) (q : m.Position) (s : Stocks) (e : h.at ≡ Some p) (l : p ≤ end_of P) where
  abbrev at : ℕ → Step
  at = graph_of P

  abbrev here : Stand Symbol
  here = sd (unread h.bits) (drop h.read w) (met_of h.met) p h.read false

  halts : (f : Fault) (q' : m.Position) (s' : Stocks) → Halts L at m here q s f here q' s' → Halts L at m (stand P h w) q s f (stand P h w) q' s'
  halts f q' s' x = subst (λ (t : Stand Symbol). Halts L at m t q s f t q' s') (sym (stands_at P h w p e)) x

  hands : (x : Played) (t' : Stand Symbol) (q' : m.Position) (s' : Stocks) → HandsOver L at m here q s x t' q' s' → HandsOver L at m (stand P h w) q s x t' q' s'
  hands x t' q' s' y = subst (λ (t : Stand Symbol). HandsOver L at m t q s x t' q' s') (sym (stands_at P h w p e)) y

  low : p < 256
  low = omega (arith, l, end_small P)

  pub turn_met : (f : Fault) → met_of h.met p ≡ true → f ≡ placed NotAWalk h.read → Halts L at m (stand P h w) q s f (stand P h w) q s
  turn_met f i r = halts f q s (breaks_by L at m here q q s s f refl (again i) r refl refl)

  module _ (i : met_of h.met p ≡ false) where
    pub turn_dry : (f : Fault) (x y : ℕ) → at p ≡ Fork x y → unread h.bits ≡ [] → f ≡ placed NotAWalk h.read → Halts L at m (stand P h w) q s f (stand P h w) q s
    turn_dry f x y g k r = halts f q s (breaks_by L at m here q q s s f refl (rw k (no_bit i g)) r refl refl)

    pub turn_outside : (f : Fault) (class k : ℕ) → at p ≡ Read class k → Err f ≡ next_item L class (drop h.read w) h.read → Halts L at m (stand P h w) q s f (stand P h w) q s
    turn_outside f class k g r =
        halts f q s (breaks_by L at m here q q s s f refl (reading_breaks L class at (unread h.bits) (met_of h.met) p k i g (drop h.read w) h.read f r) (refused_item L class (drop h.read w) h.read f r) refl refl)

    pub turn_left : (f : Fault) (b : Bool) → at p ≡ End → (b ≡ true) ↔ ((length w ≤ h.read) × Filling (unread h.bits)) → b ≡ false → f ≡ placed NotAWalk h.read → Halts L at m (stand P h w) q s f (stand P h w) q s
    turn_left f b g k x r = halts f q s (breaks_by L at m here q q s s f refl (left_over L at (unread h.bits) w h.read (met_of h.met) p i g (λ y. never_both (k.1 y) x)) r refl refl)

    pub turn_skip : (new : PointSet) (k : ℕ) → at p ≡ Pass k → members new ≡ set (members h.met) p true → Skips L at m (stand P h w) q s (sd (unread h.bits) (drop h.read w) (met_of new) k h.read false) q s
    turn_skip new k g a =
        let t' = sd (unread h.bits) (drop h.read w) (add p (met_of h.met)) k h.read false in
        rw (inserted h.met new p a low) (subst (λ (t : Stand Symbol). Skips L at m t q s t' q s) (sym (stands_at P h w p e)) (record {
          passed = record {
            way = passes i g stays;
            bits = refl;
            symbols = refl;
            read = refl;
            ended = refl;
            same = same_by L at here t' (λ c v x. over i g x) (some_in L P t' (pass_within P p k g));
          };
          falls = left_add 256 p (met_of h.met) low i;
          stays = refl;
          keeps = refl;
        }))

    pub turn_fork : (new : PointSet) (bs : List Bool) (b : Bool) (x y j k : ℕ) (q' : m.Position) (s' : Stocks) (o : Unit {0}) → at p ≡ Fork x y → members new ≡ set (members h.met) p true →
        unread h.bits ≡ b ∷ bs → j ≡ cond b second_branch first_branch → k ≡ cond b y x → Hands m q s j h.read (Ok o) q' s' →
        HandsOver L at m (stand P h w) q s (played.Branch p b) (sd bs (drop h.read w) (met_of new) k h.read false) q' s'
    turn_fork new bs b x y j k q' s' o g a eb ej ek r =
        let t' = sd bs (drop h.read w) (met_of new) k h.read false in
        let met = inserted h.met new p a low in
        hands (played.Branch p b) t' q' s' (hands_by L at m here t' (played.Branch p b) j q q' s s' o refl i
        (refl, record { one = x; other = y; fork = g; item = ej; bits = eb; symbols = refl; met = met; point = ek; read = refl; ended = refl })
        r.0 r.1 r.2
        (λ c v z.
        let z' : Traces L at bs (drop h.read w) (add p (met_of h.met)) (cond b y x) c v = rw (met, ek) at z in
        rw (ej, eb) (fork_way L at b bs (drop h.read w) (met_of h.met) p x y c v i g z'))
        (some_in L P t' (rw ek (fork_within P p b x y g))))

    pub turn_read : (new : PointSet) (j k class : ℕ) (q' : m.Position) (s' : Stocks) (o : Unit {0}) → at p ≡ Read class k → members new ≡ replicate 256 false →
        Reading L class (drop h.read w) j → Hands m q s j h.read (Ok o) q' s' →
        HandsOver L at m (stand P h w) q s (played.Read p) (sd (unread h.bits) (drop (h.read + 1) w) (met_of new) k (h.read + 1) false) q' s'
    turn_read new j k class q' s' o g a y r =
        let t' = sd (unread h.bits) (drop (h.read + 1) w) (met_of new) k (h.read + 1) false in
        let met = cleared new a in
        let d = drop_next w h.read y.symbol y.rest y.is in
        let u : drop h.read w ≡ y.symbol ∷ drop (h.read + 1) w = y.is ∙ ap (λ (r : List Symbol). y.symbol ∷ r) d.1 in
        hands (played.Read p) t' q' s' (hands_by L at m here t' (played.Read p) j q q' s s' o refl i
        (refl, record { class = class; symbol = y.symbol; reads = g; belongs = y.belongs; item = y.item; bits = refl; symbols = u; met = met; read = refl; ended = refl })
        r.0 r.1 r.2
        (λ c v z. let z' : Traces L at (unread h.bits) (drop (h.read + 1) w) none k c v = rw met at z in rw (y.item, u) (reads i g y.belongs z'))
        (some_in L P t' (read_within P p class k g)))

    -- the end point, with nothing left
    ending : (length w ≤ h.read) × Filling (unread h.bits) → at p ≡ End → Left L at here (end_mark ∷ []) complete
    ending k g = rw (drop_all h.read w k.0) (ends i g k.1)

    pub turn_end : (q' : m.Position) (s' : Stocks) (o : Unit {0}) → at p ≡ End → (length w ≤ h.read) × Filling (unread h.bits) → Hands m q s end_mark h.read (Ok o) q' s' →
        HandsOver L at m (stand P h w) q s played.End (sd (unread h.bits) (drop h.read w) (met_of h.met) (end_of P) h.read true) q' s'
    turn_end q' s' o g k r =
        let none_left = drop_all h.read w k.0 in
        let t' = sd (unread h.bits) (drop h.read w) (met_of h.met) (end_of P) h.read true in
        hands played.End t' q' s' (hands_by L at m here t' played.End end_mark q q' s s' o refl i
        (record { end = g; item = refl; filling = k.1; none_left = none_left; bits = refl; symbols = none_left; met = refl; point = sym (only_end P p l g); read = refl; ended = refl })
        r.0 r.1 r.2
        (λ c v z. rw (z.0, z.1) (ending k g))
        ([], complete, (refl, refl)))

    -- the sink refuses the item

    pub bars_fork : (f : Fault) (bs : List Bool) (b : Bool) (x y j : ℕ) (q' : m.Position) (s' : Stocks) → at p ≡ Fork x y → unread h.bits ≡ b ∷ bs → j ≡ cond b second_branch first_branch →
        Hands m q s j h.read (Err f) q' s' → Halts L at m (stand P h w) q s f (stand P h w) q' s'
    bars_fork f bs b x y j q' s' g eb ej r =
        let d = traced_in L P bs (drop h.read w) (add p (met_of h.met)) (cond b y x) (fork_within P p b x y g) in
        halts f q' s' (refuses_by L at m here q q' s s' f r.0 j d.0 d.1 refl (rw (ej, eb) (fork_way L at b bs (drop h.read w) (met_of h.met) p x y d.0 d.1 i g d.2)) r.1 r.2 r.3 r.4)

    pub bars_read : (f : Fault) (j k class : ℕ) (q' : m.Position) (s' : Stocks) → at p ≡ Read class k → Reading L class (drop h.read w) j → Hands m q s j h.read (Err f) q' s' →
        Halts L at m (stand P h w) q s f (stand P h w) q' s'
    bars_read f j k class q' s' g y r =
        let d = traced_in L P (unread h.bits) y.rest none k (read_within P p class k g) in
        halts f q' s' (refuses_by L at m here q q' s s' f r.0 j d.0 d.1 refl (rw (y.item, y.is) (reads i g y.belongs d.2)) r.1 r.2 r.3 r.4)

    pub bars_end : (f : Fault) (q' : m.Position) (s' : Stocks) → at p ≡ End → (length w ≤ h.read) × Filling (unread h.bits) → Hands m q s end_mark h.read (Err f) q' s' →
        Halts L at m (stand P h w) q s f (stand P h w) q' s'
    bars_end f q' s' g k r = halts f q' s' (refuses_by L at m here q q' s s' f r.0 end_mark [] complete refl (ending k g) r.1 r.2 r.3 r.4)
