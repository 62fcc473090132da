-- The line that tells a refusal. Assumes nothing.
use Rattle.std.specs.Prelude.{ℕ, List, ◌++◌, codes, decimal}
use Rattle.fault.specs.declared.refusal.Fault.{Fault}
use Rattle.fault.specs.Causes.{number, layer, layer_number, words}

-- refused number=N layer=L place=P: and the cause in words
abbrev pub line : ℕ → ℕ → ℕ → List ℕ → List ℕ
line n l p ws =
    codes "refused number=" ++ (decimal n ++ (codes " layer=" ++ (decimal l ++ (codes " place=" ++ (decimal p ++ (codes ": " ++ ws))))))

abbrev pub told : Fault → List ℕ
told f = line (number f.cause) (layer_number (layer f.cause)) f.place (words f.cause)
