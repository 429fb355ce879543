use Rattle.std.proofs.Common.{rules, ◌≡◌, ◌∙◌, is_some, None, slice_index_or, arith, length}
use Rattle.std.specs.Int.{from_bool}
use Rattle.assembly.proofs.Writes.{map_added, five}
use Rattle.assembly.proofs.step_bytes.map_byte.Goals as goal

pub returns : goal.returns
returns c =
    let a0 = c.map.ensures.items.at 0 None 0 (omega arith) in
    let a1 = c.map.ensures.items.at 1 None 0 (omega arith) in
    let a2 = c.map.ensures.items.at 2 None 0 (omega arith) in
    let a3 = c.map.ensures.items.at 3 None 0 (omega arith) in
    let a4 = c.map.ensures.items.at 4 None 0 (omega arith) in
    let e0 : slice_index_or c.map.result 0 0 ≡ from_bool (is_some (slice_index_or c.args.fields 0 None)) = search rules in
    let e1 : slice_index_or c.map.result 1 0 ≡ from_bool (is_some (slice_index_or c.args.fields 1 None)) = search rules in
    let e2 : slice_index_or c.map.result 2 0 ≡ from_bool (is_some (slice_index_or c.args.fields 2 None)) = search rules in
    let e3 : slice_index_or c.map.result 3 0 ≡ from_bool (is_some (slice_index_or c.args.fields 3 None)) = search rules in
    let e4 : slice_index_or c.map.result 4 0 ≡ from_bool (is_some (slice_index_or c.args.fields 4 None)) = search rules in
    let long : length c.args.fields ≡ 5 = search rules in
    rw (e0, e1, e2, e3, e4) (map_added _ _ _ _ _ ∙ five c.args.fields long)
