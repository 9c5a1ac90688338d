-- The two values that stand for none: one of the numbers, and one of the bytes.
use Rattle.std.specs.Prelude.{ℕ, ◌==◌, if◌then◌else◌, Option, Some, None}
use Rattle.media_types.specs.declared.numbers.HashNo.{HashNo}

-- the child that four bytes stand for
abbrev pub child_of : ℕ → Option HashNo
child_of k = if k == 0xffff_ffff then None else Some (record { 0 = k })

-- the radius that a byte stands for
abbrev pub radius_of : ℕ → Option ℕ
radius_of b = if b == 0xff then None else Some b
