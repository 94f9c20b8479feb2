-- Each of document 01's numbers is that of a kind.
use Rattle.std.specs.Prelude.{ℕ, suc, ◌+◌, ◌≤◌, ◌<◌, ◌≡◌, List, [], ◌∷◌, Bool, true, false, length, eqb}
use Rattle.std.proofs.Common.{arith, refl, ◌∙◌}
use Rattle.std.proofs.lemmas.Bool.{eqb-true, eqb-false}
use Rattle.format.specs.Trace.{pick}
use Rattle.reader.specs.Numbers.{kind_number}
use Rattle.reader.specs.declared.kinds.Kind.{Kind}
use Rattle.reader.specs.declared.kinds.Kind.TheVariants.{InputTooLarge, UnexpectedEof, InvalidMagic, UnsupportedVersion, AllocationBudgetExceeded, InvalidUtf8, InvalidBoolean, InvalidSlotType, InvalidValueKind, InvalidPackedValueMeta, InvalidPackedValueRttid, InvalidChanDir, InvalidRuntimeType, InvalidConstant, InvalidInstructionMetadata, DuplicateStructField, DuplicateInterfaceMethod, DuplicateNamedMethod, DuplicateRuntimeStructField, InvalidFunctionMetadata, InvalidSourceInteger, ModuleArtifactLimitExceeded, DebugMetadataLimitExceeded, TrailingBytes, HostCalls, NoRoom, NoSuchArtifact}

-- the numbers of the kinds, from i on
unfoldable ascending : ℕ → List Kind → Bool
ascending i [] = true
ascending i (k ∷ ks) = pick (eqb (kind_number k) i) (ascending (suc i) ks) false

both : (a b : Bool) → pick a b false ≡ true → (a ≡ true) × (b ≡ true)
unfolding pick
both true b e = (refl, e)
both false b e = let z : ◌≡◌ {A = ℕ} 0 1 = cc in absurd (omega arith)

from-list : (ks : List Kind) (i n : ℕ) → ascending i ks ≡ true → i ≤ n → n < i + length ks
    → (k : Kind) × (kind_number k ≡ n)
unfolding ascending
from-list [] i n a h j = absurd (omega arith)
from-list (k ∷ ks) i n a h j =
    let w = both (eqb (kind_number k) i) (ascending (suc i) ks) a in
    go (eqb-true (kind_number k) i w.0) (eqb i n) refl (from-list ks (suc i) n w.1)
  where
    go : kind_number k ≡ i → (b : Bool) → eqb i n ≡ b
        → (suc i ≤ n → n < suc i + length ks → (k : Kind) × (kind_number k ≡ n)) → (k : Kind) × (kind_number k ≡ n)
    go w true e r = (k, w ∙ eqb-true i n e)
    go w false e r = let d = eqb-false i n e in r (omega arith) (omega arith)

kinds : List Kind
kinds =
    InputTooLarge ∷ UnexpectedEof ∷ InvalidMagic ∷ UnsupportedVersion ∷ AllocationBudgetExceeded ∷ InvalidUtf8 ∷ InvalidBoolean ∷ InvalidSlotType ∷ InvalidValueKind ∷ InvalidPackedValueMeta ∷ InvalidPackedValueRttid ∷ InvalidChanDir ∷ InvalidRuntimeType ∷ InvalidConstant ∷ InvalidInstructionMetadata ∷ DuplicateStructField ∷ DuplicateInterfaceMethod ∷ DuplicateNamedMethod ∷ DuplicateRuntimeStructField ∷ InvalidFunctionMetadata ∷ InvalidSourceInteger ∷ ModuleArtifactLimitExceeded ∷ DebugMetadataLimitExceeded ∷ TrailingBytes ∷ HostCalls ∷ NoRoom ∷ NoSuchArtifact ∷ []

pub kind-of : (n : ℕ) → 1 ≤ n → n ≤ 27 → (k : Kind) × (kind_number k ≡ n)
unfolding ascending pick kinds
kind-of n h j = from-list kinds 1 n refl h (omega arith)
