use Rattle.std.proofs.Common.{rules}
use Rattle.reader.proofs.Errors.{handed}
use Rattle.vob24.specs.Settings.{settings, settings_of}
use Rattle.vob24_data.specs.Sections.{section_of, functions_of}
use Rattle.calls.proofs.Laws.{section-since, section-refused, section-taken}
use Rattle.sections.proofs.read_section.Goals as goal

pub closed-requires : goal.closed-requires
unfolding settings_of
closed-requires c = section-since settings (functions_of c.args.section) (section_of c.args.section) c.opening-start.ensures c.section-first.ensures

pub returns-in_err-taken : goal.returns-in_err-taken
unfolding settings_of
returns-in_err-taken c = rw (handed c.from_residual.result c.from_residual.ensures.1) (section-refused settings (functions_of c.args.section) (section_of c.args.section) c.opening-start.ensures c.section-first.ensures (search rules) c.closed.ensures c.in_err-taken.was)

pub returns : goal.returns
unfolding settings_of
returns c = section-taken settings (functions_of c.args.section) (section_of c.args.section) c.opening-start.ensures c.section-first.ensures (search rules) c.closed.ensures c.in_ok-taken.was c.section.ensures
