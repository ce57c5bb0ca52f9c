-- With what is left of the form and of the numbers the whole text is put.
use Rattle.std.specs.Prelude.{◌≡◌, drop}
use Rattle.std.specs.Slice.Iter.{iter_rest}
use Rattle.base.specs.Writing.{written, puts}
use Rattle.wording.specs.Form.{formed}
use Rattle.wording.proofs.meanings.form.write_form.Given as goal

abbrev pub invariant-loop-c : goal.invariant-loop-c
invariant-loop-c l =
    puts (written l.out) (formed (drop l.c-index l.form) (iter_rest l.numbers))
    ≡ puts (written l.initial.out) (formed l.form l.ns)
