-- A row or a channel has no more nets than columns, since each net has two of its places: so across is at most its length.
use Prim.Native.Nat.{ℕ, ◌+◌, ◌≤◌}
use mathlib.Core.Path.{◌≡◌, sym, ap, ◌∙◌}
use mathlib.Core.Logic.{◌≢◌}
use native.Mathlib.Omega.{arith}
use native.Mathlib.Decide.{dec_lt}
use lib.Dec.{eqb}
use borrow.Author.Tests.{eq-eqb}
use Rattle.counting.specs.Counting.{In, bit, count}
use Rattle.counting.proofs.Sums.{split, bit_le, bit_one, bit_zero, sum_le, sum_add, sum_part, sum_two, double_count}
use Rattle.counting.proofs.Counts.{most_le}
use Rattle.terms.specs.Kinds.{Side, north, south, west, east}
use Rattle.terms.proofs.Laws.{Thin, no_west, no_east}
use Rattle.terms.specs.Limits.{largest_net}
use Rattle.grid.specs.Grid.{pin, places}
use Rattle.grid.specs.Legal.{Pins, nets}
use Rattle.density.specs.Density.{passes, across}
use Rattle.density.proofs.Pinned.{passes_iff}
use Rattle.problem.specs.declared.Problem.{Problem}
use Rattle.problem.specs.Problem.{pins_in, shape_of, Another, Good}

module _ (q : Problem) (good : Good q) (thin : Thin q.kind) where
  bare_west : (a : ℕ) → pins_in q.pins west a ≡ 0
  bare_west = good.bare west (no_west thin)

  bare_east : (a : ℕ) → pins_in q.pins east a ≡ 0
  bare_east = good.bare east (no_east thin)

  abbrev p : Pins
  p = pins_in q.pins

  abbrev n : ℕ
  n = q.n.0

  -- how many pins net m has on a side
  abbrev on : Side → ℕ → ℕ
  on s m = count (λ a. eqb (p s a) m) n

  hit : (s : Side) (a m : ℕ) → p s a ≡ m → bit (eqb (p s a) m) ≡ 1
  hit s a m e = bit_one (eq-eqb (p s a) m e)

  one : (s : Side) (a m : ℕ) → In a n → p s a ≡ m → 1 ≤ on s m
  one s a m i e = omega (arith, sum_part (λ a. bit (eqb (p s a) m)) a n i, hit s a m e)

  both : (s : Side) (a b m : ℕ) → In a n → In b n → a ≢ b → p s a ≡ m → p s b ≡ m → 2 ≤ on s m
  both s a b m i j ne e f = elim (dec_lt a b) [
    | yes h ↦ omega (arith, sum_two (λ a. bit (eqb (p s a) m)) a b n i j h, hit s a m e, hit s b m f)
    | no h ↦ omega (arith, sum_two (λ a. bit (eqb (p s a) m)) b a n j i (omega (arith, ne)), hit s a m e, hit s b m f)
  ]

  two : (m : ℕ) → 1 ≤ m → (s : Side) (a : ℕ) → In a (places (shape_of q) s) → p s a ≡ m → 2 ≤ on north m + on south m
  two m nz s a i e = go s a i e o.side o.place o.on (o.net ∙ e) o.different
    where
      o : Another (shape_of q) p s a
      o = good.several s a (λ z. omega (arith, e, z))

      go : (s : Side) (a : ℕ) → In a (places (shape_of q) s) → p s a ≡ m → (s' : Side) (b : ℕ) → In b (places (shape_of q) s') → p s' b ≡ m
          → pin s' b ≢ pin s a
          → 2 ≤ on north m + on south m
      go west a i e s' b j f d = absurd (omega (arith, bare_west a, e))
      go east a i e s' b j f d = absurd (omega (arith, bare_east a, e))
      go north a i e west b j f d = absurd (omega (arith, bare_west b, f))
      go north a i e east b j f d = absurd (omega (arith, bare_east b, f))
      go south a i e west b j f d = absurd (omega (arith, bare_west b, f))
      go south a i e east b j f d = absurd (omega (arith, bare_east b, f))
      go north a i e south b j f d = omega (arith, one north a m i e, one south b m j f)
      go south a i e north b j f d = omega (arith, one south a m i e, one north b m j f)
      go north a i e north b j f d = omega (arith, both north a b m i j (λ h. d (ap (pin north) (sym h))) e f)
      go south a i e south b j f d = omega (arith, both south a b m i j (λ h. d (ap (pin south) (sym h))) e f)

  few : (c : ℕ) → nets (passes (shape_of q) p c) ≤ n
  few c =
      let f : ℕ → ℕ = λ m. bit (passes (shape_of q) p c m) in
      let pairs = sum_le (λ m. f m + f m) (λ m. on north m + on south m) largest_net each in
      omega (
        arith,
        pairs,
        sum_add f f largest_net,
        sum_add (on north) (on south) largest_net,
        double_count (p north) n largest_net,
        double_count
            (p south) n largest_net,
      )
    where
      each : (m : ℕ) → In m largest_net → bit (passes (shape_of q) p c m) + bit (passes (shape_of q) p c m) ≤ on north m + on south m
      each m i = split (passes (shape_of q) p c m)
          (λ e. let u = ((passes_iff (shape_of q) p c m).0 e).0 in omega
          (arith, bit_le (passes (shape_of q) p c m), two m i.0 u.side u.place u.on u.net))
          (λ e. omega (arith, bit_zero e))

  pub across_few : across (shape_of q) p ≤ n
  unfolding across
  across_few = most_le _ n n (λ c i. few c)
