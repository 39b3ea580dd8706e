-- The spans that are listed and packed keep the promise of `Placed`: each net of more than one column has its span in the list, once.
use Prim.Native.Nat.{ℕ, zero, suc, ◌+◌, ◌*◌, ◌≤◌, ◌<◌}
use native.Mathlib.Omega.{arith}
use native.Mathlib.Decide.{ℕ_discrete}
use mathlib.Core.Path.{◌≡◌, ap, ◌∙◌}
use mathlib.Core.Logic.{◌≢◌, by_cases, ⊎_elim}
use mathlib.Core.Bool.{Bool, true, ◌&&◌}
use mathlib.Core.List.{List, Memᴰ}
use lib.ListN.{length, get_or, length-replicate}
use lib.Dec.{leb, ltb}
use borrow.Author.Tests.{le-leb, lt-ltb}
use Rattle.counting.specs.Counting.{In}
use Rattle.terms.specs.Limits.{largest_net}
use Rattle.grid.specs.Legal.{entry}
use Rattle.nets.specs.declared.Span.{Span}
use Rattle.nets.specs.Tables.{Numbered, span_from}
use Rattle.trunks.specs.Packing.{fresh_packing, packed, Packable}
use Rattle.trunks.specs.Listing.{pin_number, SpansListed}
use Rattle.trunks.specs.Trunks.{Trunks, trunks_of, PinIn, Crosses, crossing, SpanColumns, Placed}
use Rattle.trunks.proofs.Ends.{first_before, last_behind, few, starts_at_lem, ends_at, span_ends}
use Rattle.trunks.proofs.Listings.{pin_of}
use Rattle.trunks.proofs.Gallai.{covering, contains, contains_in, covering_length, covering_few, none_at_least, Ready, Packs, packs}

small : (side : List ℕ) → Numbered side → (c m : ℕ) → entry side c ≡ m → m ≤ largest_net
small side h zero m e = omega arith
small side h (suc c) m e = omega (arith, h.small c)

module _ (north south : List ℕ) (n : ℕ) (hn : Numbered north) (hs : Numbered south) {first last wests easts : List ℕ}
    (t : SpanColumns north south n first last wests easts) (norths souths : List ℕ) (ss : List Span) (size : length ss ≤ 180)
    (l : SpansListed (pin_number north south) (λ m. span_from first last norths souths wests easts m n) (2 * n) ss) where
  abbrev span : ℕ → Span
  span m = span_from first last norths souths wests easts m n

  abbrev trunks : Trunks
  trunks = trunks_of first last (packed fresh_packing ss).place

  -- a span that is listed goes from its net's first column to its last
  listed : (s : Span) → Memᴰ s ss → (s.left ≡ get_or first s.net 0) × (s.right ≡ get_or last s.net 0) × (1 ≤ s.left) × (s.left < s.right)
      × In s.net largest_net
  listed s i =
      let (e, one, lt) = l.each s i in
      let (le, re) = span_ends t s.net (n + 1) in
      let el : s.left ≡ get_or first s.net 0 = ap (λ (u : Span). u.left) e ∙ le in
      let er : s.right ≡ get_or last s.net 0 = ap (λ (u : Span). u.right) e ∙ re in
      (el, er, one, lt, few north south t s.net (omega arith))

  ready : (b : ℕ) → ((c : ℕ) → covering c ss ≤ b) → Ready fresh_packing ss 1 b
  ready b h = record {
    lasts_size = length-replicate {A = ℕ} 180 0;
    place_size = length-replicate {A = ℕ} 181 0;
    ordered = l.ordered;
    each = λ s i. let (el, er, one, lt, k) = listed s i in (one, omega arith, k.1);
    room = λ c k. omega (arith, h c, none_at_least c 180 k);
  }

  all_packed : Packs fresh_packing ss 180 (packed fresh_packing ss).place
  all_packed = packs fresh_packing ss 1 180 (omega arith) (ready 180 (λ c. omega (arith, covering_length c ss)))

  pub packable : Packable fresh_packing ss
  packable = all_packed.fit

  -- the net of a pin is numbered
  pinned : (c m : ℕ) → m ≢ 0 → PinIn north south c m → In m largest_net
  pinned c m nz p = (omega arith, ⊎_elim (small north hn c m) (small south hs c m) p)

  pub promised : Placed north south n trunks
  promised = record {
    all = λ c m i nz p. let k = pinned c m nz p in ((first_before north south t c m i k p).1, last_behind north south t c m i k p);
    first = starts_at_lem north south t;
    last = ends_at north south t;
    few = few north south t;
    apart = apart;
    within = within;
  }
    where
      member : (m : ℕ) → get_or first m 0 < get_or last m 0 → Memᴰ (span m) ss
      member m lt =
          let (i, p) = starts_at_lem north south t m lt in
          let (q, h, e, k) = pin_of north south n (get_or first m 0) m i p in
          let (le, re) = span_ends t m (n + 1) in
          rw e at (l.all q h (rw e (omega arith)))

      apart : (m m' c : ℕ) → Crosses trunks m c → Crosses trunks m' c → get_or (packed fresh_packing ss).place m 0 ≡ get_or
          (packed fresh_packing ss).place m' 0 → m ≡ m'
      apart m m' c h h' e = by_cases (ℕ_discrete m m') (λ s. s)
          (λ ne. let (le, re) = span_ends t m (n + 1) in let (le', re') = span_ends t m' (n + 1) in
          ⊎_elim (λ lt. absurd (omega arith)) (λ lt. absurd (omega arith))
          (all_packed.apart (span m) (span m') (member m h.0) (member m' h'.0) ne e))

      within : (most : ℕ) → most ≤ largest_net → ((c : ℕ) → crossing trunks c ≤ most) → (m : ℕ) → get_or first m 0 < get_or last m 0 → get_or
          (packed fresh_packing ss).place m 0 < most
      within most h k m lt = (packs fresh_packing ss 1 most h (ready most
          (λ c. omega (arith, k c, covering_few c ss (crosses c) largest_net l.ordered (known c))))).within (span m) (member m lt)
        where
          crosses : ℕ → ℕ → Bool
          crosses c m = leb (get_or first m 0) c && leb c (get_or last m 0) && ltb (get_or first m 0) (get_or last m 0)

          known : (c : ℕ) (s : Span) → Memᴰ s ss → In s.net largest_net × (1 ≤ contains s c → crosses c s.net ≡ true)
          known c s i =
              let (el, er, one, lt, k) = listed s i in (
                k,
                λ o. let (a, b) = contains_in s c o in
                    rw (
                      le-leb (get_or first s.net 0) c (omega arith),
                      le-leb c (get_or last s.net 0) (omega arith),
                      lt-ltb (get_or first s.net 0)
                          (get_or last s.net 0) (omega arith),
                    ),
              )
