-- The contract of a reader at a cursor.
use Rattle.std.specs.Prelude.{ℕ, List, Ok}
use Rattle.format.specs.Format.{Format}
use Rattle.reader.specs.Contract.{Reader, Step}
use Rattle.reader.specs.declared.Cursor.{Cursor}

abbrev pub ReaderAt : Format → List ℕ → Cursor → List ℕ → Step → List ℕ → Type 0
ReaderAt f s c t q t' = Reader f s (Ok c) t q t'
