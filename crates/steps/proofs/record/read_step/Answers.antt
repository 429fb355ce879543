use Rattle.std.proofs.Common.{◌-◌, length, get_or, take, drop, refl, rules}
use Rattle.std.proofs.lemmas.Slice.{first_rest}
use Rattle.std.proofs.lemmas.Result.{err_from_is_err_and}
use Rattle.std.proofs.lemmas.Bool.Decides.{not_from_Decides}
use Rattle.steps.specs.Readings.{request_of}
use Rattle.steps.proofs.Fields.{says_one, says_is, unsound}
use Rattle.steps.proofs.record.read_step.Goals as goal

pub returns-in_err-said : goal.returns-in_err-said
returns-in_err-said c =
    let bs = c.args.bytes.now in
    let p = err_from_is_err_and c.from_residual.result c.from_residual.ensures.1 in
    let e = c.in_err-said.ensures in
    record {
      read = rw (p.1, p.2) (e.0, λ q s. e.1 q (says_is c.args.events bs (get_or bs 0 0) (take (length bs - 1) (drop 1 bs)) (first_rest bs 0 (search rules)) q s));
      one = says_one c.args.events bs;
    }

pub returns-then-not-is_sound : goal.returns-then-not-is_sound
returns-then-not-is_sound c =
    let bs = c.args.bytes.now in
    record {
      read = (
        refl,
        unsound c.args.events bs (get_or bs 0 0) (take (length bs - 1) (drop 1 bs)) (request_of c.in_ok-said.said) (first_rest bs 0 (search rules)) c.in_ok-said.ensures
            (not_from_Decides c.is_sound.result c.is_sound.ensures c.if-not-is_sound.true),
      );
      one = says_one c.args.events bs;
    }

pub returns : goal.returns
returns c =
    let bs = c.args.bytes.now in
    let map = c.is_map.ensures.0 c.if-not-is_map.false in
    let sound = c.is_sound.ensures.0 c.if-not-is_sound.false in
    record {
      read = record {
        map = get_or bs 0 0;
        fields = take (length bs - 1) (drop 1 bs);
        begins = first_rest bs 0 (search rules);
        low = map.0;
        first = map.1;
        said = c.in_ok-said.ensures;
        number = sound.0;
        terms = sound.1;
      };
      one = says_one c.args.events bs;
    }
