-- What a pattern file stands for. Assumes nothing.
use Rattle.std.specs.Prelude.{ℕ, zero, suc, pred, ◌+◌, ◌-◌, Bool, true, false, cond, ◌&&◌, List, [], ◌∷◌, ◌++◌, length, take, drop, Some, None, Ok, Err, Option, Result, nat_le}
use Rattle.fault.specs.declared.cause.Cause.{Cause}
use Rattle.fault.specs.declared.cause.Cause.TheVariants.{UnreadableNumber, Malformed, PatternLimit}
use Rattle.fault.specs.declared.refusal.Fault.{Fault}
use Rattle.pattern.specs.declared.operation.Operation.{Operation}
use Rattle.pattern.specs.declared.operation.Operation.TheVariants.{Empty, Drops, Keeps, Text, Sequence, Choice, Star}
use Rattle.pattern.specs.Limits.{most_points, most_text, most_standing, most_file}
use Rattle.pattern.specs.Numbers.{Long, number}
use Rattle.pattern.specs.Operations.{operation_of}
use Rattle.pattern.specs.Expressions.{Expr, empty, read, text, seq, alt, star, size, texts}

-- The expressions that stand together are a list, the newest first: their points in all,
abbrev pub total : List Expr → ℕ
total [] = 0
total (e ∷ es) = total es + size e

-- and their text bytes in all, oldest first.
abbrev pub bytes : List Expr → List ℕ
bytes [] = []
bytes (e ∷ es) = bytes es ++ texts e

-- no limit is passed
abbrev pub within : List Expr → Bool
within es = nat_le (total es) most_points && (nat_le (length (bytes es)) most_text && nat_le (length es) most_standing)

-- what an operation does: it is refused, or takes some bytes and leaves these expressions standing
pub data Effect : Type 0 where
  refused : Cause → Effect
  leaves : ℕ → List Expr → Effect

-- the limits are looked at last
abbrev pub limited : ℕ → List Expr → Effect
limited n es = cond (within es) (leaves n es) (refused PatternLimit)

-- an operation on the last expression, and one on the last two, older first; n is how many bytes it takes
abbrev pub on_one : (Expr → Expr) → ℕ → List Expr → Effect
on_one f n [] = refused Malformed
on_one f n (e ∷ es) = limited n (f e ∷ es)

abbrev pub on_two : (Expr → Expr → Expr) → ℕ → List Expr → Effect
on_two f n [] = refused Malformed
on_two f n (e ∷ []) = refused Malformed
on_two f n (e ∷ d ∷ es) = limited n (f d e ∷ es)

-- a number has to be readable
abbrev pub given : Option Long → (Long → Effect) → Effect
given None f = refused UnreadableNumber
given (Some r) f = f r

-- an operation has to be known
abbrev pub known_as : Option Operation → (Operation → Effect) → Effect
known_as None f = refused Malformed
known_as (Some o) f = f o

-- a read of the class r, after n bytes
abbrev pub reading : Bool → ℕ → List Expr → Long → Effect
reading keep n es r = limited (n + r.bytes) (read keep r.value ∷ es)

-- a text of the length r, after n bytes; bs begins with the length, and the text's bytes have to be there
abbrev pub texting : ℕ → List ℕ → List Expr → Long → Effect
texting n bs es r =
    cond (nat_le r.value (length bs - r.bytes))
    (limited (n + r.bytes + r.value) (text (take r.value (drop r.bytes bs)) ∷ es))
    (refused Malformed)

-- an operation whose number took n bytes; bs are the bytes after it
abbrev pub operate : Operation → ℕ → List ℕ → List Expr → Effect
operate Empty n bs es = limited n (empty ∷ es)
operate Drops n bs es = given (number bs) (reading false n es)
operate Keeps n bs es = given (number bs) (reading true n es)
operate Text n bs es = given (number bs) (texting n bs es)
operate Sequence n bs es = on_two seq n es
operate Choice n bs es = on_two alt n es
operate Star n bs es = on_one star n es

-- the operation at the front of bs
abbrev pub effect : List ℕ → List Expr → Effect
effect bs es = given (number bs) (λ r. known_as (operation_of r.value) (λ o. operate o r.bytes (drop r.bytes bs) es))

-- at the end of the file exactly one expression stands
abbrev pub final : ℕ → List Expr → Result Expr Fault
final place [] = Err (record { cause = Malformed; place = place })
final place (e ∷ []) = Ok e
final place (e ∷ d ∷ es) = Err (record { cause = Malformed; place = place })

-- a refusal names the offset at which its operation begins
abbrev pub onward : Effect → ℕ → (ℕ → List Expr → Result Expr Fault) → Result Expr Fault
onward (refused c) place f = Err (record { cause = c; place = place })
onward (leaves n es) place f = f n es

-- the rest of a file, from the offset `place` on; its first k bytes still belong to the operation before
abbrev pub operations : List ℕ → ℕ → ℕ → List Expr → Result Expr Fault
operations [] k place es = final place es
operations (b ∷ bs) (suc k) place es = operations bs k (suc place) es
operations (b ∷ bs) zero place es = onward (effect (b ∷ bs) es) place (λ n fs. operations bs (pred n) (suc place) fs)

-- the expression of a file, or why it is refused
abbrev pub decoded : List ℕ → Result Expr Fault
decoded file =
    cond (nat_le (length file) most_file) (operations file 0 0 []) (Err (record { cause = PatternLimit; place = 0 }))
