-- A row's sizes looked through one after the other (parts_looked_up): ones for the sizes that are passed, and the code of what is left over the
-- sizes that are left. Assumes nothing.
use mathlib.Core.Path.{◌≡◌, ◌∙◌, sym, ap}
use Prim.Native.Nat.{ℕ, ◌+◌, ◌-◌, ◌^◌, ◌≤◌, ◌<◌}
use native.Mathlib.Omega.{arith}
use mathlib.Core.List.{List}
use lib.ListN.{length, drop, get_or, drop_of_length-le}
use Rattle.asmap_codes.specs.Row.{span}
use Rattle.asmap_codes.specs.Encode.{encode}
use Rattle.asmap_code_parts.specs.models.Parts.{ones_then, CodeParts}
use Rattle.asmap_codes.proofs.CodeLaws.{span-drop, size_small}
use Rattle.asmap_code_parts.proofs.EncodeLaws.{encode_more, encode_stop, encode_last}
use Rattle.asmap_codes.proofs.GrownLaws.{stops_more, stops_last}
use Rattle.asmap_code_parts.proofs.PartsLaws.{ones_more}

-- i sizes are passed, and so much is left
pub record Passed (ss : List ℕ) (x rest i : ℕ) : Type 0 where
  pub inside : i < length ss
  pub short : span (drop i ss) ≤ 2 ^ 31
  pub spans : rest < span (drop i ss)
  pub code : encode ss x ≡ ones_then i (encode (drop i ss) rest)

module _ (ss : List ℕ) (x rest i : ℕ) where
  pub passed : (step : ℕ) → i + 1 < length ss → Passed ss x rest i → step ≡ 2 ^ get_or ss i 0 → step ≤ rest → Passed ss x (rest - step) (i + 1)
  passed step h k p l =
      let d = span-drop ss i k.inside in
      record {
        inside = h;
        short = omega (arith, k.short, d);
        spans = omega (arith, k.spans, d);
        code = k.code ∙ ap (ones_then i) (encode_more ss rest i h (omega arith)) ∙ ones_more i (encode (drop (i + 1) ss) (rest - 2 ^ get_or ss i 0))
            ∙ ap (λ (y : ℕ). ones_then (i + 1) (encode (drop (i + 1) ss) (rest - y))) (sym p);
      }

  pub stopped : i + 1 < length ss → Passed ss x rest i → rest < 2 ^ get_or ss i 0 → CodeParts ss x (record { ones = i; size = get_or ss i 0; rest = rest })
  stopped h k l = record {
    inside = k.inside;
    size = size_small ss i k.inside k.short;
    small = l;
    code = rw (stops_more i (length ss) h) (k.code ∙ ap (ones_then i) (encode_stop ss rest i h l));
  }

  pub last : length ss ≤ i + 1 → Passed ss x rest i → CodeParts ss x (record { ones = i; size = get_or ss i 0; rest = rest })
  last h k =
      let n : i + 1 ≡ length ss = omega (arith, k.inside) in
      let z : span (drop (i + 1) ss) ≡ 0 = ap span (drop_of_length-le ss {i = i + 1} (omega arith)) in
      record {
        inside = k.inside;
        size = size_small ss i k.inside k.short;
        small = omega (arith, k.spans, z, span-drop ss i k.inside);
        code = rw (stops_last i (length ss) h) (k.code ∙ ap (ones_then i) (encode_last ss rest i n));
      }
