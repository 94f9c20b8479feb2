use Rattle.vob24.specs.Settings.{settings_of}
use Rattle.vob24.specs.Grammar.{section}
use Rattle.vob24_data.specs.declared.Section.TheVariants.{Name, Structs, Interfaces, NamedTypes, Itabs, RuntimeTypes, WellKnown, Constants, Globals, Functions, Externs, Entry, IslandInit, Artifacts, Files, FunctionLocations, InlineSources}
use Rattle.deserialize.proofs.Laws.{section-at, accepted-section}
use Rattle.std.proofs.Common.{rules}
use Rattle.deserialize.proofs.section.Goals as goal

pub structs-requires : goal.structs-requires
unfolding section
structs-requires c = (search rules, accepted-section (settings_of c.args.set.now) Structs c.in-Structs.is c.requires.1)

pub interfaces-requires : goal.interfaces-requires
unfolding section
interfaces-requires c = (search rules, accepted-section (settings_of c.args.set.now) Interfaces c.in-Interfaces.is c.requires.1)

pub named_types-requires : goal.named_types-requires
unfolding section
named_types-requires c = (search rules, accepted-section (settings_of c.args.set.now) NamedTypes c.in-NamedTypes.is c.requires.1)

pub runtime_types-requires : goal.runtime_types-requires
unfolding section
runtime_types-requires c = (search rules, accepted-section (settings_of c.args.set.now) RuntimeTypes c.in-RuntimeTypes.is c.requires.1)

pub returns-in-Name : goal.returns-in-Name
unfolding section
returns-in-Name c = section-at (settings_of c.args.set.now) Name c.in-Name.is c.field_str.ensures

pub returns-in-Structs : goal.returns-in-Structs
unfolding section
returns-in-Structs c = section-at (settings_of c.args.set.now) Structs c.in-Structs.is c.structs.ensures

pub returns-in-Interfaces : goal.returns-in-Interfaces
unfolding section
returns-in-Interfaces c = section-at (settings_of c.args.set.now) Interfaces c.in-Interfaces.is c.interfaces.ensures

pub returns-in-NamedTypes : goal.returns-in-NamedTypes
unfolding section
returns-in-NamedTypes c = section-at (settings_of c.args.set.now) NamedTypes c.in-NamedTypes.is c.named_types.ensures

pub returns-in-Itabs : goal.returns-in-Itabs
unfolding section
returns-in-Itabs c = section-at (settings_of c.args.set.now) Itabs c.in-Itabs.is c.itabs.ensures

pub returns-in-RuntimeTypes : goal.returns-in-RuntimeTypes
unfolding section
returns-in-RuntimeTypes c = section-at (settings_of c.args.set.now) RuntimeTypes c.in-RuntimeTypes.is c.runtime_types.ensures

pub returns-in-WellKnown : goal.returns-in-WellKnown
unfolding section
returns-in-WellKnown c = section-at (settings_of c.args.set.now) WellKnown c.in-WellKnown.is c.well_known.ensures

pub returns-in-Constants : goal.returns-in-Constants
unfolding section
returns-in-Constants c = section-at (settings_of c.args.set.now) Constants c.in-Constants.is c.constants.ensures

pub returns-in-Globals : goal.returns-in-Globals
unfolding section
returns-in-Globals c = section-at (settings_of c.args.set.now) Globals c.in-Globals.is c.globals.ensures

pub returns-in-Functions : goal.returns-in-Functions
unfolding section
returns-in-Functions c = section-at (settings_of c.args.set.now) Functions c.in-Functions.is c.functions.ensures

pub returns-in-Externs : goal.returns-in-Externs
unfolding section
returns-in-Externs c = section-at (settings_of c.args.set.now) Externs c.in-Externs.is c.externs.ensures

pub returns-in-Entry : goal.returns-in-Entry
unfolding section
returns-in-Entry c = section-at (settings_of c.args.set.now) Entry c.in-Entry.is c.field.ensures

pub returns-in-IslandInit : goal.returns-in-IslandInit
unfolding section
returns-in-IslandInit c = section-at (settings_of c.args.set.now) IslandInit c.in-IslandInit.is c.field-in-IslandInit.ensures

pub returns-in-Artifacts : goal.returns-in-Artifacts
unfolding section
returns-in-Artifacts c = section-at (settings_of c.args.set.now) Artifacts c.in-Artifacts.is c.artifacts.ensures

pub returns-in-Files : goal.returns-in-Files
unfolding section
returns-in-Files c = section-at (settings_of c.args.set.now) Files c.in-Files.is c.files.ensures

pub returns-in-FunctionLocations : goal.returns-in-FunctionLocations
unfolding section
returns-in-FunctionLocations c = section-at (settings_of c.args.set.now) FunctionLocations c.in-FunctionLocations.is c.function_locations.ensures

pub returns-in-InlineSources : goal.returns-in-InlineSources
unfolding section
returns-in-InlineSources c = section-at (settings_of c.args.set.now) (InlineSources _) c.in-InlineSources.is c.inline_sources.ensures
