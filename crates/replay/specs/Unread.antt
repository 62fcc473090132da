-- The bits that a reader of filed bytes has still to give. Assumes nothing.
use Rattle.std.specs.Prelude.{ℕ, Bool, List, ◌++◌, drop}
use Rattle.replay.specs.declared.bits.FiledBits.{FiledBits}
use Rattle.replay.specs.Bits.{highest, bits_of}

-- the rest of the byte at hand, and all bytes behind it
abbrev pub unread : FiledBits → List Bool
unread b = highest b.left b.current ++ bits_of (drop b.next b.bytes.now)

-- the bytes that are read
abbrev pub bytes_in : FiledBits → List ℕ
bytes_in b = b.bytes.now
