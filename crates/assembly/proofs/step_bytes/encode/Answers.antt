use Rattle.std.proofs.Common.{◌≡◌, ℕ, length, map, take, vec_items, None, add-one, arith, subst}
use Rattle.std.specs.Option.{option_map}
use Rattle.std.proofs.Math.Seq.{take-length}
use Rattle.steps.specs.Readings.{field_of, request_of}
use Rattle.assembly.proofs.Writes.{AllAdded, one_more, fits_each, says_all}
use Rattle.assembly.proofs.step_bytes.encode.Goals as goal

pub add-requires : goal.add-requires
add-requires c = fits_each (request_of c.args.said.now) c.requires c.fields_of-fields.result c.loop-field.field-index c.fields_of-fields.ensures

pub loop-field-preserved : goal.loop-field-preserved
loop-field-preserved c =
    rw add-one
    (one_more (option_map field_of) c.fields_of-fields.result None c.loop-field.field-index _ (vec_items c.loop-field.out) _ (omega arith) c.loop-field.invariant c.in_ok-add.ensures)

pub returns : goal.returns
returns c events s =
    let xs = c.fields_of-fields.result in
    let n : c.loop-field.field-index ≡ length xs = omega arith in
    let all : AllAdded (map (option_map field_of) (take (length xs) xs)) (vec_items c.in_ok-out.out) (vec_items c.loop-field.out) = subst (λ (k : ℕ). AllAdded (map (option_map field_of) (take k xs)) (vec_items c.in_ok-out.out) (vec_items c.loop-field.out)) n c.loop-field.invariant in
    says_all events (request_of c.args.said.now) c.map_byte.result xs _ c.fields_of-fields.ensures c.map_byte.ensures
    (rw c.in_ok-out.ensures.items at (rw (take-length xs) at all)) s
