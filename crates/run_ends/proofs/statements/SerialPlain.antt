-- The serial of every record that a call on run ends returns: that of the mask that it reads. Each line is about an accepted call; a
-- refused one returns only a number.
use Rattle.std.specs.Prelude.{ℕ, ◌≡◌, ℤ, List}
use Rattle.masks.specs.declared.bitmap.Bitmap.{Bitmap}
use Rattle.masks.specs.equations.Answer.{given}
use Rattle.run_ends.specs.equations.Read.{from_run_ends_of}
use Rattle.run_ends.specs.equations.Write.{to_run_ends_of}

pub record SerialsPlainly : Type 0 where
  pub read : (ends : List ℤ) (m : Bitmap) (bytes : List ℕ) (n size : ℕ) (s : Bitmap)
      → given s ≡ from_run_ends_of ends m bytes n size → s.serial ≡ m.serial
  pub write : (m : Bitmap) (bytes : List ℕ) (places size : ℕ) (v : Bitmap) → given v ≡ to_run_ends_of m bytes places size
      → v.serial ≡ m.serial
