use Rattle.std.proofs.Common.{◌≡◌, ℕ, List, refl}
use Rattle.srt_aes.specs.inside.Planes.{joined}
use Rattle.srt_aes.specs.inside.Circuit.{on_words, linear_layer, products, inverse, sums_of_inverse, outputs, last_layer, substituted}
use Rattle.srt_aes.proofs.circuit.substitute.Goals as goal

pub returns : goal.returns
unfolding substituted
returns c a b held =
    let ya = linear_layer on_words a in
    let yb = linear_layer on_words b in
    let ta = products on_words ya in
    let tb = products on_words yb in
    let ia = inverse on_words ta in
    let ib = inverse on_words tb in
    let sa = sums_of_inverse on_words ia in
    let sb = sums_of_inverse on_words ib in
    let sums = c.linear_layer-sums.ensures a b held in
    let inverses = c.sums_of_inverse-inverse.ensures ia ib (c.inverse.ensures ta tb (c.products.ensures ya yb sums)) in
    c.last_layer.ensures (outputs on_words ya sa) (outputs on_words yb sb) (c.outputs.ensures ya yb sa sb sums inverses)
