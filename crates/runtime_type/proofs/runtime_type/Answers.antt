use Rattle.vob24.specs.Settings.{settings_of}
use Rattle.std.proofs.Common.{◌≡◌, ◌≤◌, arith, refl}
use Rattle.vob24.specs.Grammar.{runtime_type, runtime_variants}
use Rattle.reader.specs.Recorded.{recorded}
use Rattle.reader.proofs.Laws.{got-ready}
use Rattle.reader.proofs.Parts.{tag-most, choose_at}
use Rattle.reader.proofs.Accepting.{accepted-part}
use Rattle.reader.proofs.Recording.{recorded_empty, recorded_last}
use Rattle.lists.specs.Records.{bare_of}
use Rattle.runtime_type.specs.Records.{type_records, runtime_type_of}
use Rattle.runtime_type.specs.declared.RuntimeType.TheVariants as kind
use Rattle.runtime_type.proofs.Laws.{lost_only, lost_first, variant_record, record_made, record_unmade}
use Rattle.runtime_type.proofs.runtime_type.Goals as goal

pub returns-in_err-tag : goal.returns-in_err-tag
unfolding runtime_type runtime_type_of
returns-in_err-tag c = lost_first c.in_err-tag.was c.from_residual.ensures.1 c.number.ensures

pub struct_type-requires : goal.struct_type-requires
unfolding runtime_type
struct_type-requires c = (got-ready c.in_ok-tag.was c.number.ensures, accepted-part (λ x k. choose_at (runtime_variants (settings_of c.args.set.now)) 8 refl c.in_ok-tag.was c.in-8.is c.number.ensures k) c.requires.1)

pub interface-requires : goal.interface-requires
unfolding runtime_type
interface-requires c = (got-ready c.in_ok-tag.was c.number.ensures, accepted-part (λ x k. choose_at (runtime_variants (settings_of c.args.set.now)) 9 refl c.in_ok-tag.was c.in-9.is c.number.ensures k) c.requires.1)

pub returns-in-0 : goal.returns-in-0
unfolding runtime_type runtime_type_of
returns-in-0 c = variant_record (runtime_variants (settings_of c.args.set.now)) type_records (bare_of kind.Island) 0 c.in_ok-tag.was c.in-0.is c.number.ensures c.basic.ensures

pub returns-in-1 : goal.returns-in-1
unfolding runtime_type runtime_type_of
returns-in-1 c = variant_record (runtime_variants (settings_of c.args.set.now)) type_records (bare_of kind.Island) 1 c.in_ok-tag.was c.in-1.is c.number.ensures c.named.ensures

pub returns-in-3 : goal.returns-in-3
unfolding runtime_type runtime_type_of
returns-in-3 c = variant_record (runtime_variants (settings_of c.args.set.now)) type_records (bare_of kind.Island) 3 c.in_ok-tag.was c.in-3.is c.number.ensures c.array.ensures

pub returns-in-5 : goal.returns-in-5
unfolding runtime_type runtime_type_of
returns-in-5 c = variant_record (runtime_variants (settings_of c.args.set.now)) type_records (bare_of kind.Island) 5 c.in_ok-tag.was c.in-5.is c.number.ensures c.map.ensures

pub returns-in-7 : goal.returns-in-7
unfolding runtime_type runtime_type_of
returns-in-7 c = variant_record (runtime_variants (settings_of c.args.set.now)) type_records (bare_of kind.Island) 7 c.in_ok-tag.was c.in-7.is c.number.ensures c.func.ensures

pub returns-in-8 : goal.returns-in-8
unfolding runtime_type runtime_type_of
returns-in-8 c = variant_record (runtime_variants (settings_of c.args.set.now)) type_records (bare_of kind.Island) 8 c.in_ok-tag.was c.in-8.is c.number.ensures c.struct_type.ensures

pub returns-in-9 : goal.returns-in-9
unfolding runtime_type runtime_type_of
returns-in-9 c = variant_record (runtime_variants (settings_of c.args.set.now)) type_records (bare_of kind.Island) 9 c.in_ok-tag.was c.in-9.is c.number.ensures c.interface.ensures

pub returns-in-10 : goal.returns-in-10
unfolding runtime_type runtime_type_of
returns-in-10 c = variant_record (runtime_variants (settings_of c.args.set.now)) type_records (bare_of kind.Island) 10 c.in_ok-tag.was c.in-10.is c.number.ensures c.tuple.ensures

pub returns-in_default : goal.returns-in_default
unfolding runtime_type runtime_type_of
returns-in_default c =
    let most : c.in_ok-tag.tag ≤ 12 = tag-most c.in_ok-tag.was c.number.ensures in
    let last : c.in_ok-tag.tag ≡ 12 = omega arith in
    variant_record (runtime_variants (settings_of c.args.set.now)) type_records (bare_of kind.Island) 12 c.in_ok-tag.was last
    c.number.ensures
    (recorded (recorded_empty (got-ready c.in_ok-tag.was c.number.ensures) c.bare-in_default.ensures))

pub returns-in_err-elem-in-2 : goal.returns-in_err-elem-in-2
unfolding runtime_type runtime_type_of
returns-in_err-elem-in-2 c =
    variant_record (runtime_variants (settings_of c.args.set.now)) type_records (bare_of kind.Island) 2 c.in_ok-tag.was c.in-2.is c.number.ensures
    (lost_only c.in_err-elem-in-2.was c.from_residual-in_err-elem-in-2.ensures.1 c.one_rttid.ensures)

pub returns-in_ok-elem-in-2 : goal.returns-in_ok-elem-in-2
unfolding runtime_type runtime_type_of
returns-in_ok-elem-in-2 c =
    variant_record (runtime_variants (settings_of c.args.set.now)) type_records (bare_of kind.Island) 2 c.in_ok-tag.was c.in-2.is c.number.ensures
    (recorded (recorded_last c.in_ok-elem-in-2.was c.one_rttid.ensures (λ n _. bare_of (kind.Pointer n)) c.bare.ensures))

pub returns-in_err-elem-in-4 : goal.returns-in_err-elem-in-4
unfolding runtime_type runtime_type_of
returns-in_err-elem-in-4 c =
    variant_record (runtime_variants (settings_of c.args.set.now)) type_records (bare_of kind.Island) 4 c.in_ok-tag.was c.in-4.is c.number.ensures
    (lost_only c.in_err-elem-in-4.was c.from_residual-in_err-elem-in-4.ensures.1 c.one_rttid-in-4.ensures)

pub returns-in_ok-elem-in-4 : goal.returns-in_ok-elem-in-4
unfolding runtime_type runtime_type_of
returns-in_ok-elem-in-4 c =
    variant_record (runtime_variants (settings_of c.args.set.now)) type_records (bare_of kind.Island) 4 c.in_ok-tag.was c.in-4.is c.number.ensures
    (recorded (recorded_last c.in_ok-elem-in-4.was c.one_rttid-in-4.ensures (λ n _. bare_of (kind.Slice n)) c.bare-in-4.ensures))

pub returns-in_err-dir-in-6 : goal.returns-in_err-dir-in-6
unfolding runtime_type runtime_type_of
returns-in_err-dir-in-6 c =
    variant_record (runtime_variants (settings_of c.args.set.now)) type_records (bare_of kind.Island) 6 c.in_ok-tag.was c.in-6.is c.number.ensures
    (record_unmade c.in_err-dir-in-6.was c.from_residual-in_err-dir-in-6.ensures.1 c.directed.ensures)

pub returns-in_ok-dir-in-6 : goal.returns-in_ok-dir-in-6
unfolding runtime_type runtime_type_of
returns-in_ok-dir-in-6 c =
    variant_record (runtime_variants (settings_of c.args.set.now)) type_records (bare_of kind.Island) 6 c.in_ok-tag.was c.in-6.is c.number.ensures
    (record_made (λ x. bare_of (kind.Chan x.0 x.1)) c.in_ok-dir-in-6.was c.bare-in-6.ensures c.directed.ensures)

pub returns-in_err-dir-in-11 : goal.returns-in_err-dir-in-11
unfolding runtime_type runtime_type_of
returns-in_err-dir-in-11 c =
    variant_record (runtime_variants (settings_of c.args.set.now)) type_records (bare_of kind.Island) 11 c.in_ok-tag.was c.in-11.is c.number.ensures
    (record_unmade c.in_err-dir-in-11.was c.from_residual-in_err-dir-in-11.ensures.1 c.directed-in-11.ensures)

pub returns-in_ok-dir-in-11 : goal.returns-in_ok-dir-in-11
unfolding runtime_type runtime_type_of
returns-in_ok-dir-in-11 c =
    variant_record (runtime_variants (settings_of c.args.set.now)) type_records (bare_of kind.Island) 11 c.in_ok-tag.was c.in-11.is c.number.ensures
    (record_made (λ x. bare_of (kind.Port x.0 x.1)) c.in_ok-dir-in-11.was c.bare-in-11.ensures c.directed-in-11.ensures)
