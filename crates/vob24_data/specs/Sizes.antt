-- The numbers of the code's sizes.
use Rattle.std.specs.Prelude.{ℕ}
use Rattle.vob24.specs.Settings as vob
use Rattle.vob24_data.specs.declared.Size.{Size}
use Rattle.vob24_data.specs.declared.Size.TheVariants.{StructMeta, SlotType, FieldMeta, StringUsize, InterfaceMeta, String, InterfaceMethodMeta, Str, NamedTypeMeta, StringMethodInfo, Usize, Itab, U32, RuntimeType, ValueRttid, StructField, StrStr, InterfaceMethod, Constant, GlobalDef, FunctionDef, U16, Instruction, InstructionMetadata, SelectCaseLayout, TransferType, ModuleArtifact, FuncDebugInfo, DebugLoc, InlineSourceFrame, InlineFunctionSources, InlineSourceEntry, ExternDef}

abbrev pub size_number : Size → ℕ
size_number StructMeta = vob.StructMeta
size_number SlotType = vob.SlotType
size_number FieldMeta = vob.FieldMeta
size_number StringUsize = vob.StringUsize
size_number InterfaceMeta = vob.InterfaceMeta
size_number String = vob.String
size_number InterfaceMethodMeta = vob.InterfaceMethodMeta
size_number Str = vob.Str
size_number NamedTypeMeta = vob.NamedTypeMeta
size_number StringMethodInfo = vob.StringMethodInfo
size_number Usize = vob.Usize
size_number Itab = vob.Itab
size_number U32 = vob.U32
size_number RuntimeType = vob.RuntimeType
size_number ValueRttid = vob.ValueRttid
size_number StructField = vob.StructField
size_number StrStr = vob.StrStr
size_number InterfaceMethod = vob.InterfaceMethod
size_number Constant = vob.Constant
size_number GlobalDef = vob.GlobalDef
size_number FunctionDef = vob.FunctionDef
size_number U16 = vob.U16
size_number Instruction = vob.Instruction
size_number InstructionMetadata = vob.InstructionMetadata
size_number SelectCaseLayout = vob.SelectCaseLayout
size_number TransferType = vob.TransferType
size_number ModuleArtifact = vob.ModuleArtifact
size_number FuncDebugInfo = vob.FuncDebugInfo
size_number DebugLoc = vob.DebugLoc
size_number InlineSourceFrame = vob.InlineSourceFrame
size_number InlineFunctionSources = vob.InlineFunctionSources
size_number InlineSourceEntry = vob.InlineSourceEntry
size_number ExternDef = vob.ExternDef
