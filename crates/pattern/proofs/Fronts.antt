-- Lists whose parts are known, and writes into them.
use Rattle.std.proofs.Common.{◌≡◌, ℕ, ◌-◌, List, [], ◌∷◌, ◌++◌, map, length, get_or, take, drop, sym, ap, ◌∙◌, append_assoc, arith, length-append}
use borrow.Rule.Slice.PartMut.{put_mid}
use Rattle.std.specs.List.{refill}
use Rattle.std.proofs.lemmas.List.{get_or_at, take_at, drop_at, take_all, drop_all, append-nil, length-map, length_push}

module _ {X : Type 0} where
  -- the last element
  pub get_or_last : (xs p : List X) (y d : X) → xs ≡ p ++ y ∷ [] → get_or xs (length xs - 1) d ≡ y
  get_or_last xs p y d e =
      ap (λ l. get_or l (length xs - 1) d) e ∙ get_or_at p y [] d (length xs - 1) (omega (arith, ap length e, length_push p y))

  -- the last but one
  pub get_or_prior : (xs p : List X) (x y d : X) → xs ≡ (p ++ x ∷ []) ++ y ∷ [] → get_or xs (length xs - 2) d ≡ x
  get_or_prior xs p x y d e =
      ap (λ l. get_or l (length xs - 2) d) (e ∙ append_assoc p (x ∷ []) (y ∷ []))
      ∙ get_or_at p x (y ∷ []) d (length xs - 2) (omega (arith, ap length e, length_push (p ++ x ∷ []) y, length_push p x))

  -- without the last element
  pub popped : (xs ys p : List X) (y : X) → xs ≡ p ++ y ∷ [] → ys ≡ take (length xs - 1) xs → ys ≡ p
  popped xs ys p y e h =
      h ∙ ap (take (length xs - 1)) e ∙ take_at p (y ∷ []) (length xs - 1) (omega (arith, ap length e, length_push p y))

  -- a map over the part m of a list that is borrowed as ds
  pub mapped_part : (f : X → X) (xs ds p m q ys : List X) (a k : ℕ) → ds ≡ xs → xs ≡ (p ++ m) ++ q → a ≡ length p → k ≡ length m
      → ys ≡ map f (take k (drop a ds)) → refill (length xs) xs (put_mid a k ds ys) ≡ (p ++ map f m) ++ q
  mapped_part f xs ds p m q ys a k same e ha hk hy =
      let whole : ds ≡ p ++ (m ++ q) = same ∙ e ∙ append_assoc p m q in
      let da : drop a ds ≡ m ++ q = ap (drop a) whole ∙ drop_at p (m ++ q) a (sym ha) in
      let ta : take a ds ≡ p = ap (take a) whole ∙ take_at p (m ++ q) a (sym ha) in
      let tk : take k (drop a ds) ≡ m = ap (take k) da ∙ take_at m q k (sym hk) in
      let dk : drop k (drop a ds) ≡ q = ap (drop k) da ∙ drop_at m q k (sym hk) in
      let r = (p ++ map f m) ++ q in
      let is : put_mid a k ds ys ≡ r =
      ap (λ l. l ++ (ys ++ drop k (drop a ds))) ta ∙ ap (λ l. p ++ (l ++ drop k (drop a ds))) (hy ∙ ap (map f) tk) ∙ ap (λ l. p ++ (map f m ++ l)) dk
      ∙ sym (append_assoc p (map f m) q) in
      let long : length r ≡ length xs =
      omega (arith, ap length e, length-append (p ++ map f m) q, length-append p (map f m), length-map m f, length-append (p ++ m) q, length-append p m) in
      ap (refill (length xs) xs) is
      ∙ ap (λ l. take (length xs) (r ++ l)) (drop_all (length r) xs (omega arith))
      ∙ ap (take (length xs)) (append-nil r)
      ∙ take_all (length xs) r (omega arith)

  -- a map over the front of a list, to which it was copied
  pub mapped_front : (f : X → X) (xs cs ys zs ws : List X) (n : ℕ) → cs ≡ xs → n ≡ length xs → ys ≡ map f (take n (cs ++ zs)) → take n (ys ++ ws) ≡ map f xs
  mapped_front f xs cs ys zs ws n same long hy =
      let is : ys ≡ map f xs = hy ∙ ap (map f) (take_at cs zs n (ap length same ∙ sym long)) ∙ ap (map f) same in
      ap (λ l. take n (l ++ ws)) is ∙ take_at (map f xs) ws n (length-map xs f ∙ sym long)
