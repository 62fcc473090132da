-- The table of an expression as its follower becomes known.
use Rattle.std.proofs.Common.{◌≡◌, ℕ, ◌+◌, ◌<◌, ◌≤◌, cond, ◌++◌, map, length, refl, ap, ◌∙◌, arith, length-append, ne_eqb}
use Rattle.std.proofs.lemmas.List.{map-append, map_push, length_push}
use Rattle.pattern.specs.declared.point.Point.TheVariants.{Choice, Star}
use Rattle.pattern.specs.Limits.{most_points}
use Rattle.pattern.specs.Expressions.{Expr, empty, read, text, seq, alt, star, size, texts}
use Rattle.pattern.specs.Points.{entry, table, open_end, known, fill}

-- a point's number is no placeholder
pub known_point : (k to : ℕ) → to < most_points → known k to ≡ to
known_point k to h = ap (λ t. cond t k to) (ne_eqb to open_end (λ e. omega arith))

pub known_entry : (e : Expr) (b j k : ℕ) → b + size e ≤ most_points → known k (entry e b j) ≡ entry e b (known k j)
known_entry empty b j k h = refl
known_entry (read keep class) b j k h = known_point k b (omega arith)
known_entry (text bs) b j k h = known_point k b (omega arith)
known_entry (seq e f) b j k h =
    known_entry e b (entry f (b + size e) j) k (omega arith)
    ∙ ap (entry e b) (known_entry f (b + size e) j k (omega arith))
known_entry (alt e f) b j k h = known_point k (b + (size e + size f)) (omega arith)
known_entry (star e) b j k h = known_point k (b + size e) (omega arith)

pub fill_table : (e : Expr) (b j k t : ℕ) → b + size e ≤ most_points → map (fill k) (table e b j t) ≡ table e b (known k j) t
fill_table empty b j k t h = refl
fill_table (read keep class) b j k t h = refl
fill_table (text bs) b j k t h = refl
fill_table (seq e f) b j k t h =
    let u = map-append (fill k) (table e b (entry f (b + size e) j) t) (table f (b + size e) j (t + length (texts e))) in
    let v = fill_table e b (entry f (b + size e) j) k t (omega arith) in
    let w = fill_table f (b + size e) j k (t + length (texts e)) (omega arith) in
    let x = known_entry f (b + size e) j k (omega arith) in
    cc
fill_table (alt e f) b j k t h =
    let p = table e b j t in
    let q = table f (b + size e) j (t + length (texts e)) in
    let u = map_push (fill k) (p ++ q) (Choice (entry e b j) (entry f (b + size e) j)) in
    let v = map-append (fill k) p q in
    let w = fill_table e b j k t (omega arith) in
    let x = fill_table f (b + size e) j k (t + length (texts e)) (omega arith) in
    let y = known_entry e b j k (omega arith) in
    let z = known_entry f (b + size e) j k (omega arith) in
    cc
fill_table (star e) b j k t h =
    let s = b + size e in
    let u = map_push (fill k) (table e b s t) (Star (entry e b s) j) in
    let v = fill_table e b s k t (omega arith) in
    let w = known_entry e b s k (omega arith) in
    let x = known_point k s (omega arith) in
    cc

pub length_table : (e : Expr) (b k t : ℕ) → length (table e b k t) ≡ size e
length_table empty b k t = refl
length_table (read keep class) b k t = refl
length_table (text bs) b k t = refl
length_table (seq e f) b k t =
    let p = table e b (entry f (b + size e) k) t in
    let q = table f (b + size e) k (t + length (texts e)) in
    omega (arith, length-append p q, length_table e b (entry f (b + size e) k) t, length_table f (b + size e) k (t + length (texts e)))
length_table (alt e f) b k t =
    let p = table e b k t in
    let q = table f (b + size e) k (t + length (texts e)) in
    omega (arith, length_push (p ++ q) (Choice (entry e b k) (entry f (b + size e) k)), length-append p q, length_table e b k t, length_table f (b + size e) k (t + length (texts e)))
length_table (star e) b k t =
    let s = b + size e in
    omega (arith, length_push (table e b s t) (Star (entry e b s) k), length_table e b s t)
