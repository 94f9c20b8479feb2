-- What a reading is set to: the sizes that lists are charged by, and the limits.
use Rattle.std.specs.Prelude.{ℕ, zero, suc, ◌+◌, ◌*◌, ◌≤◌, ◌≡◌, List, [], ◌∷◌, get_or, length, take}

-- "the 32 sizes, in order of first use in 000": the entries' types, numbered from 1 along the reading.
abbrev pub StructMeta : ℕ
StructMeta = 1

abbrev pub SlotType : ℕ
SlotType = 2

abbrev pub FieldMeta : ℕ
FieldMeta = 3

-- (String, usize)
abbrev pub StringUsize : ℕ
StringUsize = 4

abbrev pub InterfaceMeta : ℕ
InterfaceMeta = 5

abbrev pub String : ℕ
String = 6

abbrev pub InterfaceMethodMeta : ℕ
InterfaceMethodMeta = 7

-- &str
abbrev pub Str : ℕ
Str = 8

abbrev pub NamedTypeMeta : ℕ
NamedTypeMeta = 9

-- (String, MethodInfo)
abbrev pub StringMethodInfo : ℕ
StringMethodInfo = 10

-- usize
abbrev pub Usize : ℕ
Usize = 11

abbrev pub Itab : ℕ
Itab = 12

-- u32
abbrev pub U32 : ℕ
U32 = 13

abbrev pub RuntimeType : ℕ
RuntimeType = 14

abbrev pub ValueRttid : ℕ
ValueRttid = 15

abbrev pub StructField : ℕ
StructField = 16

-- (&str, &str)
abbrev pub StrStr : ℕ
StrStr = 17

abbrev pub InterfaceMethod : ℕ
InterfaceMethod = 18

abbrev pub Constant : ℕ
Constant = 19

abbrev pub GlobalDef : ℕ
GlobalDef = 20

abbrev pub FunctionDef : ℕ
FunctionDef = 21

-- u16
abbrev pub U16 : ℕ
U16 = 22

abbrev pub Instruction : ℕ
Instruction = 23

abbrev pub InstructionMetadata : ℕ
InstructionMetadata = 24

abbrev pub SelectCaseLayout : ℕ
SelectCaseLayout = 25

abbrev pub TransferType : ℕ
TransferType = 26

abbrev pub ModuleArtifact : ℕ
ModuleArtifact = 27

abbrev pub FuncDebugInfo : ℕ
FuncDebugInfo = 28

abbrev pub DebugLoc : ℕ
DebugLoc = 29

abbrev pub InlineSourceFrame : ℕ
InlineSourceFrame = 30

abbrev pub InlineFunctionSources : ℕ
InlineFunctionSources = 31

abbrev pub InlineSourceEntry : ℕ
InlineSourceEntry = 32

-- "The extern entry's size joins the charge table as the 33rd."
abbrev pub ExternDef : ℕ
ExternDef = 33

-- `size_of` of each on the pinned 64-bit compiler, as `oracle/` measures them.
abbrev pub measured : List ℕ
measured =
    96 ∷ 1 ∷ 64 ∷ 32 ∷ 72 ∷ 24 ∷ 32 ∷ 16 ∷ 56 ∷ 40 ∷ 8 ∷ 32 ∷ 4 ∷ 56 ∷ 4 ∷ 80 ∷ 32 ∷ 32 ∷ 24 ∷ 56 ∷ 240 ∷ 2 ∷ 8 ∷ 64 ∷ 8 ∷ 12 ∷ 56 ∷ 24 ∷ 20 ∷ 28 ∷ 32 ∷ 8 ∷ 144 ∷ []

pub record Settings : Type 0 where
  pub sizes : List ℕ
  -- "Artifacts at most 64, name 128, payload 16,777,216 bytes"
  pub artifacts : ℕ
  pub artifact_name_bytes : ℕ
  pub artifact_payload_bytes : ℕ
  -- "Inline: frames at most 131,072"
  pub inline_records : ℕ

-- The settings of the Rust.
abbrev pub settings : Settings
settings = record { sizes = measured; artifacts = 64; artifact_name_bytes = 128; artifact_payload_bytes = 16777216; inline_records = 131072 }

-- How many sizes there are.
abbrev pub many_sizes : ℕ
many_sizes = 33

-- The settings that an array of numbers stands for: the sizes; then the limits, where one above 65,535 takes two, low
-- first.
unfoldable pub settings_of : List ℕ → Settings
settings_of l =
    record {
      sizes = take many_sizes l;
      artifacts = get_or l 33 0;
      artifact_name_bytes = get_or l 34 0;
      artifact_payload_bytes = get_or l 35 0 + 65536 * get_or l 36 0;
      inline_records = get_or l 37 0 + 65536 * get_or l 38 0;
    }

-- The size numbered i; 0 where there is none.
abbrev size_at : List ℕ → ℕ → ℕ
size_at t zero = 0
size_at t (suc i) = get_or t i 0

unfoldable pub size_of : Settings → ℕ → ℕ
size_of set i = size_at set.sizes i

-- "each in 1..4096"
pub data AllWithin : List ℕ → Type 0 where
  done : AllWithin []
  also : {n : ℕ} {ns : List ℕ} → 1 ≤ n → n ≤ 4096 → AllWithin ns → AllWithin (n ∷ ns)

-- Settings under which the promises hold: all sizes, each in 1..4096, and no limit above the Rust's.
pub record Licensed (set : Settings) : Type 0 where
  pub many : length set.sizes ≡ many_sizes
  pub within : AllWithin set.sizes
  pub artifacts : set.artifacts ≤ 64
  pub artifact_name_bytes : set.artifact_name_bytes ≤ 128
  pub artifact_payload_bytes : set.artifact_payload_bytes ≤ 16777216
  pub inline_records : set.inline_records ≤ 131072

-- "Length at most 134,217,728"
abbrev pub max_pack_bytes : ℕ
max_pack_bytes = 134217728

-- The Rust's starting budget.
abbrev pub starting_budget : ℕ
starting_budget = 536870912
