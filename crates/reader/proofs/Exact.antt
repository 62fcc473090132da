-- Each refusal is given exactly where it is due.
use Rattle.std.proofs.Common.{◌≡◌, ℕ, List, [], ◌∷◌, ◌++◌, length, Ok, Err, Result, refl, ap, subst, arith, length-append}
use Rattle.alphabet.specs.Meaning.{Meaning}
use Rattle.pattern.specs.declared.pattern.Pattern.{Pattern}
use Rattle.pattern.specs.Patterns.{entry_of}
use Rattle.walk.specs.Graphs.{graph_of}
use Rattle.walk.specs.Codes.{Code}
use Rattle.walk.proofs.Sharing.{begins_both}
use Rattle.walk.proofs.Trees.{counts_one}
use Rattle.reader.specs.declared.state.Core.{Core}
use Rattle.reader.specs.declared.stop.Stop.{Stop}
use Rattle.reader.specs.declared.stop.Stop.TheVariants.{Dead, TreeFull}
use Rattle.reader.specs.Reading.{SharedAt, NoLiveAt, CountsAt, Answered, Exact, Advances, Exactly}

abbrev Answer : Type 0
Answer = Result (Unit {0}) Stop

-- the answers differ
abbrev mark : Answer → ℕ
mark (Ok u) = 0
mark (Err Dead) = 1
mark (Err TreeFull) = 2

module _ {Symbol : Type 0} (L : Meaning Symbol) (pattern : Pattern) (s : Core) (w : List Symbol) (h xs : Code) where
  -- what is shared is one thing, and nothing where no walk is live
  shared_one : (g g' : Code) → SharedAt L pattern w g → SharedAt L pattern w g' → g ≡ g'
  shared_one g g' a b = begins_both g g' (b.1 g a.0) (a.1 g' b.0)

  none_shared : (g : Code) → NoLiveAt L pattern w → SharedAt L pattern w g → ⊥
  none_shared g n a =
      let b = a.1 (g ++ (0 ∷ [])) (λ q c l. absurd (n q c l)) in
      let e = ap length b.1 in
      let k = length-append (g ++ (0 ∷ [])) b.0 in
      let m = length-append g (0 ∷ []) in
      omega (arith, e, k, m)

  pub exact : (r : Answer) → Answered L pattern r s w h xs → Exact L pattern r w
  exact (Err Dead) A = record {
    dead = (λ _. A.0, λ _. refl);
    full = (λ e. let z = ap mark e in absurd (omega (arith, z)), λ b. absurd (none_shared b.common A.0 b.shared));
  }
  exact (Err TreeFull) A = record {
    dead = (λ e. let z = ap mark e in absurd (omega (arith, z)), λ n. absurd (none_shared A.0.common n A.0.shared));
    full = (λ _. A.0, λ _. refl);
  }
  exact (Ok u) A = record {
    dead = (λ e. let z = ap mark e in absurd (omega (arith, z)), λ n. absurd (n A.point A.code A.live));
    full = (
      λ e. let z = ap mark e in absurd (omega (arith, z)),
      λ b.
          let S = A.state in
          let q = shared_one b.common (h ++ xs) b.shared S.shared in
          let e = counts_one L (graph_of pattern) (entry_of pattern) w (h ++ xs) b.size S.size (subst (λ (g : Code). CountsAt L pattern w g b.size) q b.counts) S.counts in
          let o = b.over in
          let i = S.within in
          absurd (omega (arith, e, o, i)),
    );
  }

pub exactly : {Symbol : Type 0} (L : Meaning Symbol) (pattern : Pattern) (a : Symbol) (s : Core) (r : Answer) (s' : Core) (xs : Code) → Advances L pattern a s r s' xs → Exactly L pattern a s r
exactly L pattern a s r s' xs A w h S = exact L pattern s' (w ++ (a ∷ [])) h xs r (A w h S)
