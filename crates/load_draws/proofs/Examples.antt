-- The first draws from the default seed, and from the greatest, as another program computes them (docs/tables/loads.txt). By computation.
-- Assumes nothing.
use Prim.Native.Nat.{ℕ}
use mathlib.Core.Path.{◌≡◌, refl}
use mathlib.Core.List.{[], ◌∷◌, map}
use Rattle.load_draws.specs.Draw.{default_seed, up, down, next, draw}

first_draws : map (λ (i : ℕ). draw i default_seed) (1 ∷ 2 ∷ 3 ∷ 4 ∷ [])
    ≡ 1082269761 ∷ 1152992998833853505 ∷ 11177516664432764457 ∷ 17678023832001937445 ∷ []
unfolding draw next up down
first_draws = refl

greatest_seed : map (λ (i : ℕ). draw i 18446744073709551615) (1 ∷ 2 ∷ 3 ∷ 4 ∷ [])
    ≡ 1065361344 ∷ 1152851127339773951 ∷ 508277857751731680 ∷ 3609534427018334203 ∷ []
unfolding draw next up down
greatest_seed = refl
