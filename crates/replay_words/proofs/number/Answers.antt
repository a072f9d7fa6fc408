-- From the last byte down.
use Rattle.std.proofs.Common.{List, [], ◌∷◌, ◌++◌, reverse, ℕ, ◌≡◌, ◌∙◌, ap, refl, rules}
use Rattle.std.proofs.lemmas.Fn.{fold_over}
use Rattle.std.proofs.lemmas.List.{reverse-append, reverse-reverse}
use Rattle.std.proofs.lemmas.Iterator.Adapters.{YieldsList-from_rev_slice}
use Rattle.std.specs.Iterator.Adapters.{rev_steps}
use Rattle.std.specs.Slice.Iter.{iter_steps_back}
use Rattle.replay_words.specs.Words.{below, number_of}
use Rattle.replay_words.proofs.number.Goals as goal

none : 0 ≡ number_of []
unfolding number_of
none = refl

turn : (ys : List ℕ) (x a b : ℕ) → a ≡ number_of (reverse ys) → b ≡ below a x → b ≡ number_of (reverse (ys ++ x ∷ []))
unfolding number_of
turn ys x a b j k = rw (reverse-append ys (x ∷ [])) (k ∙ ap (λ n. below n x) j)

pub returns : goal.returns
returns c =
    let bytes = c.args.bytes.now in
    fold_over (rev_steps iter_steps_back) (λ y. y.now) _ (λ ys x. x ≡ number_of (reverse ys)) _ (λ ys a x b f' j k. search (rules, turn)) c.rev.result (reverse bytes) 0 c.fold.result
    (YieldsList-from_rev_slice bytes cc).runs none c.fold.ensures.ran
    ∙ ap number_of (reverse-reverse bytes)
