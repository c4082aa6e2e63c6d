-- The S-box as a circuit of 115 gates (Boyar and Peralta, "A depth-16 circuit for the AES S-box", 2011), in the names of
-- that paper: x0 is the highest bit of the byte, s0 that of the result. The gates are a parameter: they work on words, each
-- bit for itself, or on single bits.
use Rattle.std.specs.Prelude.{ℕ, ◌+◌, ◌-◌, ◌%◌, ◌^◌, min, List, [], ◌∷◌, bit_and, bit_xor, slice_index}

-- the gates of a circuit, and the value that is all ones
pub record Gates : Type 0 where
  pub sum : ℕ → ℕ → ℕ
  pub product : ℕ → ℕ → ℕ
  pub ones : ℕ

-- the gates on words of 64 bits
abbrev pub on_words : Gates
on_words = record { sum = bit_xor; product = bit_and; ones = 0xffff_ffff_ffff_ffff }

-- the gates on single bits
abbrev pub on_bits : Gates
on_bits = record { sum = λ a b. (a + b) % 2; product = λ a b. min a b; ones = 1 }

-- the first linear layer: x7 and the 21 sums y1 to y21 of the input's bits
unfoldable pub linear_layer : Gates → List ℕ → List ℕ
linear_layer gates xs =
    let x0 = slice_index xs 7 in
    let x1 = slice_index xs 6 in
    let x2 = slice_index xs 5 in
    let x3 = slice_index xs 4 in
    let x4 = slice_index xs 3 in
    let x5 = slice_index xs 2 in
    let x6 = slice_index xs 1 in
    let x7 = slice_index xs 0 in
    let y14 = gates.sum x3 x5 in
    let y13 = gates.sum x0 x6 in
    let y9 = gates.sum x0 x3 in
    let y8 = gates.sum x0 x5 in
    let t0 = gates.sum x1 x2 in
    let y1 = gates.sum t0 x7 in
    let y4 = gates.sum y1 x3 in
    let y12 = gates.sum y13 y14 in
    let y2 = gates.sum y1 x0 in
    let y5 = gates.sum y1 x6 in
    let y3 = gates.sum y5 y8 in
    let t1 = gates.sum x4 y12 in
    let y15 = gates.sum t1 x5 in
    let y20 = gates.sum t1 x1 in
    let y6 = gates.sum y15 x7 in
    let y10 = gates.sum y15 t0 in
    let y11 = gates.sum y20 y9 in
    let y7 = gates.sum x7 y11 in
    let y17 = gates.sum y10 y11 in
    let y19 = gates.sum y10 y8 in
    let y16 = gates.sum t0 y11 in
    let y21 = gates.sum y13 y16 in
    let y18 = gates.sum x0 y16 in
    x7 ∷ y1 ∷ y2 ∷ y3 ∷ y4 ∷ y5 ∷ y6 ∷ y7 ∷ y8 ∷ y9 ∷ y10 ∷ y11 ∷ y12 ∷ y13 ∷ y14 ∷ y15 ∷ y16 ∷ y17 ∷ y18 ∷ y19 ∷
    y20 ∷ y21 ∷ []

-- t21 to t24: an element of GF(2^4), of the sums of the first layer
unfoldable pub products : Gates → List ℕ → List ℕ
products gates ys =
    let x7 = slice_index ys 0 in
    let y1 = slice_index ys 1 in
    let y2 = slice_index ys 2 in
    let y3 = slice_index ys 3 in
    let y4 = slice_index ys 4 in
    let y5 = slice_index ys 5 in
    let y6 = slice_index ys 6 in
    let y7 = slice_index ys 7 in
    let y8 = slice_index ys 8 in
    let y9 = slice_index ys 9 in
    let y10 = slice_index ys 10 in
    let y11 = slice_index ys 11 in
    let y12 = slice_index ys 12 in
    let y13 = slice_index ys 13 in
    let y14 = slice_index ys 14 in
    let y15 = slice_index ys 15 in
    let y16 = slice_index ys 16 in
    let y17 = slice_index ys 17 in
    let y18 = slice_index ys 18 in
    let y19 = slice_index ys 19 in
    let y20 = slice_index ys 20 in
    let y21 = slice_index ys 21 in
    let t2 = gates.product y12 y15 in
    let t3 = gates.product y3 y6 in
    let t4 = gates.sum t3 t2 in
    let t5 = gates.product y4 x7 in
    let t6 = gates.sum t5 t2 in
    let t7 = gates.product y13 y16 in
    let t8 = gates.product y5 y1 in
    let t9 = gates.sum t8 t7 in
    let t10 = gates.product y2 y7 in
    let t11 = gates.sum t10 t7 in
    let t12 = gates.product y9 y11 in
    let t13 = gates.product y14 y17 in
    let t14 = gates.sum t13 t12 in
    let t15 = gates.product y8 y10 in
    let t16 = gates.sum t15 t12 in
    let t17 = gates.sum t4 t14 in
    let t18 = gates.sum t6 t16 in
    let t19 = gates.sum t9 t14 in
    let t20 = gates.sum t11 t16 in
    let t21 = gates.sum t17 y20 in
    let t22 = gates.sum t18 y19 in
    let t23 = gates.sum t19 y21 in
    let t24 = gates.sum t20 y18 in
    t21 ∷ t22 ∷ t23 ∷ t24 ∷ []

-- t29, t33, t37 and t40: its inverse in GF(2^4)
unfoldable pub inverse : Gates → List ℕ → List ℕ
inverse gates ts =
    let t21 = slice_index ts 0 in
    let t22 = slice_index ts 1 in
    let t23 = slice_index ts 2 in
    let t24 = slice_index ts 3 in
    let t25 = gates.sum t21 t22 in
    let t26 = gates.product t21 t23 in
    let t27 = gates.sum t24 t26 in
    let t28 = gates.product t25 t27 in
    let t29 = gates.sum t28 t22 in
    let t30 = gates.sum t23 t24 in
    let t31 = gates.sum t22 t26 in
    let t32 = gates.product t31 t30 in
    let t33 = gates.sum t32 t24 in
    let t34 = gates.sum t23 t33 in
    let t35 = gates.sum t27 t33 in
    let t36 = gates.product t24 t35 in
    let t37 = gates.sum t36 t34 in
    let t38 = gates.sum t27 t36 in
    let t39 = gates.product t29 t38 in
    let t40 = gates.sum t25 t39 in
    t29 ∷ t33 ∷ t37 ∷ t40 ∷ []

-- t29, t33, t37, t40 and the sums t41 to t45 of them
unfoldable pub sums_of_inverse : Gates → List ℕ → List ℕ
sums_of_inverse gates ts =
    let t29 = slice_index ts 0 in
    let t33 = slice_index ts 1 in
    let t37 = slice_index ts 2 in
    let t40 = slice_index ts 3 in
    let t41 = gates.sum t40 t37 in
    let t42 = gates.sum t29 t33 in
    let t43 = gates.sum t29 t40 in
    let t44 = gates.sum t33 t37 in
    let t45 = gates.sum t42 t41 in
    t29 ∷ t33 ∷ t37 ∷ t40 ∷ t41 ∷ t42 ∷ t43 ∷ t44 ∷ t45 ∷ []

-- z0 to z17, of the sums of the first layer and of the inverse
unfoldable pub outputs : Gates → List ℕ → List ℕ → List ℕ
outputs gates ys ts =
    let x7 = slice_index ys 0 in
    let y1 = slice_index ys 1 in
    let y2 = slice_index ys 2 in
    let y3 = slice_index ys 3 in
    let y4 = slice_index ys 4 in
    let y5 = slice_index ys 5 in
    let y6 = slice_index ys 6 in
    let y7 = slice_index ys 7 in
    let y8 = slice_index ys 8 in
    let y9 = slice_index ys 9 in
    let y10 = slice_index ys 10 in
    let y11 = slice_index ys 11 in
    let y12 = slice_index ys 12 in
    let y13 = slice_index ys 13 in
    let y14 = slice_index ys 14 in
    let y15 = slice_index ys 15 in
    let y16 = slice_index ys 16 in
    let y17 = slice_index ys 17 in
    let t29 = slice_index ts 0 in
    let t33 = slice_index ts 1 in
    let t37 = slice_index ts 2 in
    let t40 = slice_index ts 3 in
    let t41 = slice_index ts 4 in
    let t42 = slice_index ts 5 in
    let t43 = slice_index ts 6 in
    let t44 = slice_index ts 7 in
    let t45 = slice_index ts 8 in
    let z0 = gates.product t44 y15 in
    let z1 = gates.product t37 y6 in
    let z2 = gates.product t33 x7 in
    let z3 = gates.product t43 y16 in
    let z4 = gates.product t40 y1 in
    let z5 = gates.product t29 y7 in
    let z6 = gates.product t42 y11 in
    let z7 = gates.product t45 y17 in
    let z8 = gates.product t41 y10 in
    let z9 = gates.product t44 y12 in
    let z10 = gates.product t37 y3 in
    let z11 = gates.product t33 y4 in
    let z12 = gates.product t43 y13 in
    let z13 = gates.product t40 y5 in
    let z14 = gates.product t29 y2 in
    let z15 = gates.product t42 y9 in
    let z16 = gates.product t45 y14 in
    let z17 = gates.product t41 y8 in
    z0 ∷ z1 ∷ z2 ∷ z3 ∷ z4 ∷ z5 ∷ z6 ∷ z7 ∷ z8 ∷ z9 ∷ z10 ∷ z11 ∷ z12 ∷ z13 ∷ z14 ∷ z15 ∷ z16 ∷ z17 ∷ []

-- the last linear layer: the bits of the result, the lowest first
unfoldable pub last_layer : Gates → List ℕ → List ℕ
last_layer gates zs =
    let z0 = slice_index zs 0 in
    let z1 = slice_index zs 1 in
    let z2 = slice_index zs 2 in
    let z3 = slice_index zs 3 in
    let z4 = slice_index zs 4 in
    let z5 = slice_index zs 5 in
    let z6 = slice_index zs 6 in
    let z7 = slice_index zs 7 in
    let z8 = slice_index zs 8 in
    let z9 = slice_index zs 9 in
    let z10 = slice_index zs 10 in
    let z11 = slice_index zs 11 in
    let z12 = slice_index zs 12 in
    let z13 = slice_index zs 13 in
    let z14 = slice_index zs 14 in
    let z15 = slice_index zs 15 in
    let z16 = slice_index zs 16 in
    let z17 = slice_index zs 17 in
    let t46 = gates.sum z15 z16 in
    let t47 = gates.sum z10 z11 in
    let t48 = gates.sum z5 z13 in
    let t49 = gates.sum z9 z10 in
    let t50 = gates.sum z2 z12 in
    let t51 = gates.sum z2 z5 in
    let t52 = gates.sum z7 z8 in
    let t53 = gates.sum z0 z3 in
    let t54 = gates.sum z6 z7 in
    let t55 = gates.sum z16 z17 in
    let t56 = gates.sum z12 t48 in
    let t57 = gates.sum t50 t53 in
    let t58 = gates.sum z4 t46 in
    let t59 = gates.sum z3 t54 in
    let t60 = gates.sum t46 t57 in
    let t61 = gates.sum z14 t57 in
    let t62 = gates.sum t52 t58 in
    let t63 = gates.sum t49 t58 in
    let t64 = gates.sum z4 t59 in
    let t65 = gates.sum t61 t62 in
    let t66 = gates.sum z1 t63 in
    let s0 = gates.sum t59 t63 in
    let s6 = gates.sum t56 (gates.sum t62 gates.ones) in
    let s7 = gates.sum t48 (gates.sum t60 gates.ones) in
    let t67 = gates.sum t64 t65 in
    let s3 = gates.sum t53 t66 in
    let s4 = gates.sum t51 t66 in
    let s5 = gates.sum t47 t65 in
    let s1 = gates.sum t64 (gates.sum s3 gates.ones) in
    let s2 = gates.sum t55 (gates.sum t67 gates.ones) in
    s7 ∷ s6 ∷ s5 ∷ s4 ∷ s3 ∷ s2 ∷ s1 ∷ s0 ∷ []

-- the eight words of a state after the circuit
unfoldable pub substituted : Gates → List ℕ → List ℕ
substituted gates xs =
    let ys = linear_layer gates xs in
    last_layer gates (outputs gates ys (sums_of_inverse gates (inverse gates (products gates ys))))
