-- Settings with the same four dividers are the same.
use Rattle.std.specs.Prelude.{◌≡◌, refl, true, ◌&&◌, eqb}
use borrow.Author.Tests.{eqb-true, eq-eqb}
use Rattle.std.proofs.lemmas.Bool.{and_parts}
use Rattle.pll.specs.{Setting.same_setting, declared.PllConfig.PllConfig}

pub same-path : (c d : PllConfig) → same_setting c d ≡ true → c ≡ d
same-path c d e =
    let a = eqb c.refdiv d.refdiv in
    let b = eqb c.fbdiv d.fbdiv in
    let f = eqb c.post_div1 d.post_div1 in
    let p = and_parts (a && b && f) (eqb c.post_div2 d.post_div2) e in
    let q = and_parts (a && b) f p.0 in
    let r = and_parts a b q.0 in
    λ i. record {
      refdiv = eqb-true c.refdiv d.refdiv r.0 i;
      fbdiv = eqb-true c.fbdiv d.fbdiv r.1 i;
      post_div1 = eqb-true c.post_div1 d.post_div1 q.1 i;
      post_div2 = eqb-true c.post_div2 d.post_div2 p.1 i;
    }

pub same_self : (c d : PllConfig) → c ≡ d → same_setting c d ≡ true
same_self c d e =
    rw (
      e,
      eq-eqb d.refdiv d.refdiv refl,
      eq-eqb d.fbdiv d.fbdiv refl,
      eq-eqb d.post_div1 d.post_div1 refl,
      eq-eqb d.post_div2 d.post_div2 refl,
    )
