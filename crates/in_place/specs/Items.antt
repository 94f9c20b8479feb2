-- The items that have a name, and where their texts stand.
use Rattle.std.specs.Prelude.{ℕ, ◌+◌, List, map}
use Rattle.format.specs.Format.{Value, content, Format}
use Rattle.format.specs.Reading.{little, part}
use Rattle.vob24.specs.Grammar as grammar
use Rattle.vob24.specs.Leaves.{member_name}
use Rattle.in_place.specs.declared.Item.{Item}
use Rattle.in_place.specs.declared.Item.TheVariants.{Name, StructField, InterfaceMethod, RuntimeMethod, NamedMethod, RuntimeField}

abbrev pub format_of : Item → Format
format_of Name = member_name
format_of StructField = grammar.struct_field
format_of InterfaceMethod = grammar.interface_method
format_of RuntimeMethod = grammar.runtime_method
format_of NamedMethod = grammar.method
format_of RuntimeField = grammar.runtime_field

abbrev pub name_of : Item → Value → Value
name_of Name v = v
name_of StructField v = grammar.field_name v
name_of InterfaceMethod v = grammar.method_name v
name_of RuntimeMethod v = grammar.method_name v
name_of NamedMethod v = grammar.method_name v
name_of RuntimeField v = (grammar.identity v).1

-- the names of a list's items, as the grammar has them
abbrev pub names_of : Item → List Value → List Value
names_of Name vs = vs
names_of StructField vs = map grammar.field_name vs
names_of InterfaceMethod vs = map grammar.method_name vs
names_of RuntimeMethod vs = map grammar.method_name vs
names_of NamedMethod vs = map grammar.method_name vs
names_of RuntimeField vs = map (λ v. (grammar.identity v).1) vs

-- their bytes
abbrev pub contents : Item → List Value → List (List ℕ)
contents i vs = map (λ v. content (name_of i v)) vs

-- the text whose length word stands at p, and the place past it
abbrev pub text_at : List ℕ → ℕ → List ℕ
text_at s p = part s (p + 4) (little (part s p 4))

abbrev pub end_of : List ℕ → ℕ → ℕ
end_of s p = p + 4 + little (part s p 4)

-- the package of the runtime struct's field at p: after name, typ, tag and embedded
abbrev pub package_at : List ℕ → ℕ → ℕ
package_at s p = end_of s (end_of s p + 4) + 1
