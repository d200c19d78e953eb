use Rattle.std.proofs.Common.{◌≡◌, ◌+◌, ◌-◌, ◌*◌, length, sym, ap, ◌∙◌, arith}
use Rattle.store.specs.Stretches.{stretch_here, stretch_other}
use Rattle.store.proofs.stretch.copy_in.Goals as goal

pub returns : goal.returns
returns c =
    let n : length c.copy_from_slice.new.self ≡ 512 = ap length c.copy_from_slice.ensures.after ∙ c.told-bytes in
    let m : (512 * c.args.k + 512) - 512 * c.args.k ≡ 512 = omega arith in
    record {
      here = stretch_here c.args.k _ c.args.target.now c.copy_from_slice.new.self c.requires n ∙ c.copy_from_slice.ensures.after;
      elsewhere = λ j ne. stretch_other c.args.k _ j c.args.target.now c.copy_from_slice.new.self c.requires (n ∙ sym m) m ne;
    }
