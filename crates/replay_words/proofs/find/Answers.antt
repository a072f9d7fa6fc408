-- The place that std finds, counted from the first byte.
use Rattle.std.proofs.Common.{ℕ, ◌+◌, ◌-◌, ◌≤◌, ◌≡◌, ◌∙◌, eqb, length, drop, rules, arith, unwrap_or}
use Rattle.std.proofs.lemmas.List.{length-drop, take_all}
use Rattle.std.proofs.lemmas.Iterator.{YieldsList-from_slice}
use Rattle.std.proofs.lemmas.Iterator.Search.{position_from_yields_List}
use Rattle.std.specs.List.{position_or_len}
use Rattle.std.proofs.lemmas.List.Sums.{prefix_len-le-length}
use mathlib.Core.Bool.{not}
use Rattle.replay_words.specs.Words.{place_of}
use borrow.Author.Tests.{tests}
use Rattle.replay_words.proofs.Places.{place_at, or_length}
use Rattle.replay_words.proofs.find.Goals as goal

pub returns : goal.returns
returns c =
    let a = c.args in
    let xs = drop a.from a.text.now in
    let e = position_from_yields_List (λ b. eqb b a.byte) _ _ c.position-found.result c.position-found.ensures.ran (YieldsList-from_slice xs (c.iter.ensures.rest ∙ take_all (length a.text.now - a.from) xs (omega (arith, length-drop {A = ℕ})))) (λ x b q k. search (rules, tests)) in
    let k = position_or_len (λ b. eqb b a.byte) xs in
    let h : k ≤ length xs = prefix_len-le-length (λ b. not (eqb b a.byte)) xs in
    let n : length a.text.now - a.from ≡ length xs = omega (arith, length-drop {A = ℕ}) in
    let u : unwrap_or c.position-found.result (length a.text.now - a.from) ≡ k = rw (e, n) (or_length k (length xs) h) in
    let p : place_of a.from xs a.byte ≡ a.from + k = place_at a.from xs a.byte in
    let r : c.unwrap_or.result ≡ k = c.unwrap_or.ensures ∙ u in
    (omega arith, omega arith, omega arith)
