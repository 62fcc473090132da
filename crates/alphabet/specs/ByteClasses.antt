-- The alphabet of bytes. A byte is a natural number below 256.
use Rattle.std.specs.Prelude.{ℕ, Bool, true, false, cond, not, ◌&&◌, ◌||◌, ◌==◌, nat_le, nat_lt}
use Rattle.alphabet.specs.Meaning.{Meaning}

-- how many bytes there are; the classes below this are of one byte each
abbrev pub byte_count : ℕ
byte_count = 256

-- the class of any byte, the first of the five classes of more than one
abbrev pub any_byte : ℕ
any_byte = 256

-- the class of the decimal digits
abbrev pub digits : ℕ
digits = 257

-- the class of the ASCII letters
abbrev pub letters : ℕ
letters = 258

-- the class of any byte but comma, carriage return and line feed: what a field of a row may hold
abbrev pub in_field : ℕ
in_field = 259

-- the class of any byte but line feed: what a line may hold
abbrev pub in_line : ℕ
in_line = 260

-- how many classes there are
abbrev pub byte_classes : ℕ
byte_classes = 261

-- s is one of lo to hi
abbrev pub between : ℕ → ℕ → ℕ → Bool
between lo hi s = nat_le lo s && nat_le s hi

-- '0' to '9'
abbrev pub is_digit : ℕ → Bool
is_digit s = between 48 57 s

-- 'A' to 'Z' or 'a' to 'z'
abbrev pub is_letter : ℕ → Bool
is_letter s = between 65 90 s || between 97 122 s

-- ','
abbrev pub is_comma : ℕ → Bool
is_comma s = s == 44

-- carriage return, 0x0D
abbrev pub is_return : ℕ → Bool
is_return s = s == 13

-- line feed, 0x0A
abbrev pub is_feed : ℕ → Bool
is_feed s = s == 10

-- whether the byte s belongs to the class c; a number that is no byte belongs to none
abbrev pub byte_in : ℕ → ℕ → Bool
byte_in c s =
    nat_lt s byte_count &&
    cond (nat_lt c byte_count) (s == c)
    (cond (c == any_byte) true
    (cond (c == digits) (is_digit s)
    (cond (c == letters) (is_letter s)
    (cond (c == in_field) (not (is_comma s) && (not (is_return s) && not (is_feed s)))
    (cond (c == in_line) (not (is_feed s)) false)))))

-- the alphabet of bytes: a byte's number is itself
abbrev pub byte_meaning : Meaning ℕ
byte_meaning = record { classes = byte_classes; belongs = byte_in; number = λ s. s }
