-- Directions with the same two numbers are one direction: that these are narrow is shown in one way alone.
use Rattle.std.proofs.Common.{◌≡◌, ℤ, ◌∙◌, subst}
use Rattle.corr_num.specs.Narrow.{Narrow}
use Rattle.plane_hull.specs.declared.directions.Dir.{Dir}
use denote.Struct.Props.{props}

narrow_one : (z : ℤ) (m n : Narrow z) → m ≡ n
narrow_one z m n = let one : IsProp (Narrow z) = hlevel props in one m n

first_put : (x : Dir) (c : ℤ) → x.a ≡ c → (m : Narrow c) → x ≡ record { a = c; b = x.b; a_narrow = m; b_narrow = x.b_narrow }
first_put x c same =
    subst (λ (z : ℤ). (m : Narrow z) → x ≡ record { a = z; b = x.b; a_narrow = m; b_narrow = x.b_narrow }) same
    (λ m. λ i. record { a = x.a; b = x.b; a_narrow = narrow_one x.a x.a_narrow m i; b_narrow = x.b_narrow })

second_put : (x : Dir) (d : ℤ) → x.b ≡ d → (n : Narrow d) → x ≡ record { a = x.a; b = d; a_narrow = x.a_narrow; b_narrow = n }
second_put x d same =
    subst (λ (z : ℤ). (n : Narrow z) → x ≡ record { a = x.a; b = z; a_narrow = x.a_narrow; b_narrow = n }) same
    (λ n. λ i. record { a = x.a; b = x.b; a_narrow = x.a_narrow; b_narrow = narrow_one x.b x.b_narrow n i })

pub same_dir : (x y : Dir) → x.a ≡ y.a → x.b ≡ y.b → x ≡ y
same_dir x y first second =
    let half : Dir = record { a = y.a; b = x.b; a_narrow = y.a_narrow; b_narrow = x.b_narrow } in
    first_put x y.a first y.a_narrow ∙ second_put half y.b second y.b_narrow
