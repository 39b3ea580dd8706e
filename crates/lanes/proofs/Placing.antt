-- The two passes in which nets take lanes, place by place and net by net; and that in the end they have them as the rules ask.
use Prim.Native.Nat.{ℕ, zero, suc, ◌+◌, ◌-◌, ◌≤◌, ◌<◌}
use mathlib.Core.Path.{◌≡◌, refl, sym, ap, ◌∙◌}
use mathlib.Core.Logic.{◌≢◌, ◌⊎◌, inl, inr, ⊎_elim, ⊎_map, by_cases}
use mathlib.Core.List.{List}
use mathlib.Core.Bool.{Bool, true, false, not, cond, false≢true, true≢false}
use native.Mathlib.Omega.{arith}
use mir.Val.{bool_byte}
use native.Mathlib.Numerals.{add-one}
use native.Mathlib.Decide.{ℕ_discrete, dec_le}
use lib.ListN.{length, get_or, set, length-set, replicate, get_or-replicate, get_or-eq_default}
use lib.Seq.{get_or-set_same, get_or-set_other, set-get_or}
use Rattle.counting.specs.Counting.{In, bit, count}
use Rattle.counting.proofs.Sums.{split, sum_change, sum_more, sum_grows, sum_part}
use Rattle.counting.proofs.Counts.{count_same, count_le}
use Rattle.terms.specs.Limits.{largest_net, net_entries}
use Rattle.grid.specs.Legal.{entry, nets}
use Rattle.grid.proofs.Entries.{entry_at}
use Rattle.switchbox_law.specs.Rules.{wanted}
use Rattle.switchbox_law.specs.Drawing.{Lanes}
use Rattle.lanes.specs.Tables.{most_lanes, Nets, tallies, Asked}
use Rattle.lanes.specs.Placing.{Took, Listed, Distinct, Spread}
use Rattle.lanes.proofs.Counted.{byte_bit, counted_more, counted_few}

-- a net stands at a place of the side
pub within : (own : List ℕ) (i : ℕ) → get_or own i 0 ≢ 0 → i < length own
within own i z = elim (dec_le (length own) i) [ yes l ↦ absurd (z (get_or-eq_default own 0 l)) | no l ↦ omega arith ]

pub small_net : (own : List ℕ) (i : ℕ) → Nets own → get_or own i 0 ≤ largest_net
small_net own i h = elim (dec_le (length own) i) [ yes l ↦ omega (arith, get_or-eq_default own 0 l) | no l ↦ h.small i (omega arith) ]

-- ---- the first pass

abbrev blank : List ℕ
blank = replicate most_lanes 0

blank_at : (j : ℕ) → get_or blank j 0 ≡ 0
blank_at j = elim (dec_le most_lanes j) [ yes l ↦ get_or-eq_default blank 0 {n = j} l | no l ↦ get_or-replicate most_lanes j 0 0 (omega arith) ]

pub took_none : (own : List ℕ) (need : List Bool) (spare : List ℕ) → Took own need need spare blank 0 0
took_none own need spare = record {
  long = refl;
  mine = λ j z. absurd (z (blank_at j));
  once = λ j k z e. absurd (z (blank_at j));
  got = λ m t f. absurd (true≢false (sym t ∙ f));
  waits = λ m t. (t, λ j l. absurd (omega arith));
  few = omega arith;
  vacant = λ p l. absurd (omega arith);
  apart = λ p q l k. absurd (omega arith);
  all = refl;
}

module _ (own : List ℕ) (need left : List Bool) (spare lanes : List ℕ) (n i : ℕ) (h : Took own need left spare lanes n i) (l : i < most_lanes)
    (wide : length left ≡ net_entries) (room : length spare ≡ net_entries) (small : get_or own i 0 ≤ largest_net) (none : get_or need 0 false ≡ false) where
  -- lane i is no net's yet
  fresh : get_or lanes i 0 ≡ 0
  fresh = by_cases (ℕ_discrete (get_or lanes i 0) 0) (λ e. e) (λ z. absurd (omega (arith, (h.mine i z).0)))

  put_spare : get_or (set spare n i) n 0 ≡ i
  put_spare = get_or-set_same spare n i 0 (omega (arith, h.few))

  old_spare : (p : ℕ) → p ≢ n → get_or (set spare n i) p 0 ≡ get_or spare p 0
  old_spare p d = get_or-set_other spare n p i 0 d

  -- the net at place i + 1 takes no lane
  took_idle : get_or left (get_or own i 0) false ≡ false → Took own need (set left (get_or own i 0) false) (set spare n i) (set lanes i 0) (n + 1) (i + 1)
  took_idle off = rw (same_left, same_lanes) (record {
    long = h.long;
    mine = λ j z. (let r = h.mine j z in (omega (arith, r.0), r.1, r.2, r.3));
    once = h.once;
    got = h.got;
    waits = λ m t. (
      (h.waits m t).0,
      λ j b e. by_cases (ℕ_discrete j i)
          (λ q. false≢true (sym off ∙ ap (λ (x : ℕ). get_or left x false) (ap (λ (x : ℕ). get_or own x 0) (sym q) ∙ e) ∙ t))
          (λ q. (h.waits m t).1 j (omega (arith, q)) e),
    );
    few = omega (arith, h.few);
    vacant = λ p b. by_cases (ℕ_discrete p n)
        (λ q. rw (q, put_spare) (omega arith, fresh))
        (λ q. rw (old_spare p q) (let r = h.vacant p (omega (arith, q)) in (omega (arith, r.0), r.1)));
    apart = λ p q b k. by_cases (ℕ_discrete q n)
        (λ e. omega (arith, ap (λ (x : ℕ). get_or (set spare n i) x 0) e, put_spare, old_spare p (λ f. omega arith), (h.vacant p (omega arith)).0))
        (λ e. omega (arith, old_spare q e, old_spare p (λ f. omega arith), h.apart p q b (omega (arith, e))));
    all = omega (arith, h.all);
  })
    where
      same_left : set left (get_or own i 0) false ≡ left
      same_left = ap (set left (get_or own i 0)) (sym off) ∙ set-get_or left (get_or own i 0) false

      same_lanes : set lanes i 0 ≡ lanes
      same_lanes = ap (set lanes i) (sym fresh) ∙ set-get_or lanes i 0

  -- it takes lane i + 1
  module _ (on : get_or left (get_or own i 0) false ≡ true) where
    here : get_or (set lanes i (get_or own i 0)) i 0 ≡ get_or own i 0
    here = get_or-set_same lanes i (get_or own i 0) 0 (omega (arith, h.long))

    there : (j : ℕ) → j ≢ i → get_or (set lanes i (get_or own i 0)) j 0 ≡ get_or lanes j 0
    there j d = get_or-set_other lanes i j (get_or own i 0) 0 d

    gone : get_or (set left (get_or own i 0) false) (get_or own i 0) false ≡ false
    gone = get_or-set_same left (get_or own i 0) false false (omega arith)

    other : (m : ℕ) → m ≢ get_or own i 0 → get_or (set left (get_or own i 0) false) m false ≡ get_or left m false
    other m d = get_or-set_other left (get_or own i 0) m false false d

    still : (m : ℕ) → get_or left m false ≡ false → get_or (set left (get_or own i 0) false) m false ≡ false
    still m f = by_cases (ℕ_discrete m (get_or own i 0)) (λ q. rw q gone) (λ q. other m q ∙ f)

    left_before : (m : ℕ) → get_or (set left (get_or own i 0) false) m false ≡ true → (m ≢ get_or own i 0) × (get_or left m false ≡ true)
    left_before m t = by_cases (ℕ_discrete m (get_or own i 0))
        (λ q. absurd (false≢true (sym (rw q gone) ∙ t)))
        (λ q. (q, sym (other m q) ∙ t))

    net : get_or own i 0 ≢ 0
    net e = true≢false (sym (h.waits (get_or own i 0) on).0 ∙ ap (λ (x : ℕ). get_or need x false) e ∙ none)

    -- no lane is this net's yet
    new : (j : ℕ) → get_or lanes j 0 ≢ get_or own i 0
    new j e = true≢false (sym on ∙ ap (λ (x : ℕ). get_or left x false) (sym e) ∙ (h.mine j (λ z. net (sym e ∙ z))).3)

    one_mine : (j : ℕ) → get_or (set lanes i (get_or own i 0)) j 0 ≢ 0
        → (j < i + 1) × (get_or own j 0 ≡ get_or (set lanes i (get_or own i 0)) j 0) × (get_or need (get_or (set lanes i (get_or own i 0)) j 0) false ≡ true)
        × (get_or (set left (get_or own i 0) false) (get_or (set lanes i (get_or own i 0)) j 0) false ≡ false)
    one_mine j z = by_cases (ℕ_discrete j i)
        (λ q. rw (q, here) (omega arith, refl, (h.waits (get_or own i 0) on).0, gone))
        (λ q. rw (there j q) (let r = h.mine j (λ e. z (there j q ∙ e)) in (omega (arith, r.0), r.1, r.2, still _ r.3)))

    one_once : (j k : ℕ) → get_or (set lanes i (get_or own i 0)) j 0 ≢ 0 → get_or (set lanes i (get_or own i 0)) j 0 ≡ get_or (set lanes i (get_or own i 0)) k 0 → j ≡ k
    one_once j k z e = go (ℕ_discrete j i) (ℕ_discrete k i)
      where
        go : Dec (j ≡ i) → Dec (k ≡ i) → j ≡ k
        go (yes x) (yes y) = x ∙ sym y
        go (yes x) (no y) = absurd (new k (sym (there k y) ∙ sym e ∙ ap (λ (t : ℕ). get_or (set lanes i (get_or own i 0)) t 0) x ∙ here))
        go (no x) (yes y) = absurd (new j (sym (there j x) ∙ e ∙ ap (λ (t : ℕ). get_or (set lanes i (get_or own i 0)) t 0) y ∙ here))
        go (no x) (no y) = h.once j k (λ t. z (there j x ∙ t)) (sym (there j x) ∙ e ∙ there k y)

    one_got : (m : ℕ) → get_or need m false ≡ true → get_or (set left (get_or own i 0) false) m false ≡ false → (j : ℕ) ×
        (get_or (set lanes i (get_or own i 0)) j 0 ≡ m)
    one_got m t f = by_cases (ℕ_discrete m (get_or own i 0))
        (λ q. (i, here ∙ sym q))
        (λ q. let (j, e) = h.got m t (sym (other m q) ∙ f) in
        (j, there j (λ d. true≢false (sym t ∙ ap (λ (x : ℕ). get_or need x false) (sym e ∙ ap (λ (x : ℕ). get_or lanes x 0) d ∙ fresh) ∙ none)) ∙ e))

    one_all : nets (λ m. get_or (set left (get_or own i 0) false) m false) + (i + 1) ≡ nets (λ m. get_or need m false) + n
    one_all =
        let change = sum_change (λ m. bit (get_or left m false)) (λ m. bit (get_or (set left (get_or own i 0) false) m false)) (get_or own i 0) largest_net
        (omega (arith, net)) (λ m d. ap bit (sym (other m d))) in
        omega (arith, h.all, change, ap bit on, ap bit gone)

    took_one : Took own need (set left (get_or own i 0) false) (set spare n i) (set lanes i (get_or own i 0)) n (i + 1)
    took_one = record {
      long = simp length-set h.long;
      mine = one_mine;
      once = one_once;
      got = one_got;
      waits = λ m t. (let (d, t') = left_before m t in (
        (h.waits m t').0,
        λ j b e. by_cases (ℕ_discrete j i)
            (λ q. d (sym e ∙ ap (λ (x : ℕ). get_or own x 0) q))
            (λ q. (h.waits m t').1 j (omega (arith, q)) e),
      ));
      few = omega (arith, h.few);
      vacant = λ p b. rw (old_spare p (λ e. omega arith)) (let r = h.vacant p b in (omega (arith, r.0), there _ (λ e. omega (arith, r.0)) ∙ r.1));
      apart = λ p q b k. omega (arith, old_spare q (λ e. omega arith), old_spare p (λ e. omega arith), h.apart p q b k);
      all = one_all;
    }

  pub took_more : (taken : Bool) (v c : ℕ) → taken ≡ get_or left (get_or own i 0) false → v ≡ cond taken (get_or own i 0) 0 → c ≡ bool_byte (not taken)
      → Took own need (set left (get_or own i 0) false) (set spare n i) (set lanes i v) (n + c) (i + 1)
  took_more true v c t e f = let same : n + c ≡ n = omega arith in rw (e, same) (took_one (sym t))
  took_more false v c t e f = rw (e, f) (took_idle (sym t))

-- ---- the nets that are left

module _ (left : List Bool) where
  abbrev among : ℕ → ℕ
  among k = count (λ m. get_or left m false) k

  -- the later of two nets that are left has the higher rank
  rank_less : (a b : ℕ) → a < b → get_or left b false ≡ true → among a < among b
  rank_less a zero l t = absurd (omega arith)
  rank_less a (suc b) l t = omega (arith, sum_grows (λ m. bit (get_or left m false)) a b (omega arith), next, ap bit t)
    where
      next : among (suc b) ≡ among b + bit (get_or left (suc b) false)
      next = rw add-one at (sum_more (λ m. bit (get_or left m false)) b)

  rank_same : (a b : ℕ) → get_or left a false ≡ true → get_or left b false ≡ true → among a ≡ among b → a ≡ b
  rank_same a b s t e = elim (dec_le b a) [
    | yes l ↦ elim (dec_le a b) [ yes k ↦ omega arith | no k ↦ absurd (omega (arith, rank_less b a (omega arith) s)) ]
    | no l ↦ absurd (omega (arith, rank_less a b (omega arith) t))
  ]

  pub listed_none : (list : List ℕ) → Listed left list 0
  listed_none list = record { is = λ p l. absurd (omega arith) }

  pub listed_more : (list : List ℕ) (m n c : ℕ) → length list ≡ net_entries → 1 ≤ m → m < net_entries → n ≡ among (m - 1)
      → c ≡ bool_byte (get_or left m false) → Listed left list n → Listed left (set list n m) (n + c)
  listed_more list m n c len l r e f h = record { is = λ p b. go p b (ℕ_discrete p n) }
    where
      is_bit : c ≡ bit (get_or left m false)
      is_bit = f ∙ byte_bit (get_or left m false)

      now : get_or left m false ≡ true → among m ≡ suc n
      now t =
          let here : m + 1 - 1 ≡ m = omega arith in
          let more : n + c ≡ among m = counted_more (λ k. get_or left k false) m n c l e f ∙ ap among here in
          omega (arith, more, is_bit, ap bit t)

      go : (p : ℕ) → p < n + c → Dec (p ≡ n)
          → In (get_or (set list n m) p 0) largest_net × (get_or left (get_or (set list n m) p 0) false ≡ true) ×
          (among (get_or (set list n m) p 0) ≡ suc p)
      go p b (yes q) = split (get_or left m false)
          (λ t. rw (q, get_or-set_same list n m 0 (omega (arith, counted_few (λ k. get_or left k false) m n e))) (omega arith, t, now t))
          (λ t. absurd (omega (arith, is_bit, ap bit t)))
      go p b (no q) =
          rw (get_or-set_other list n p m 0 q)
          (h.is p (split (get_or left m false) (λ t. omega (arith, is_bit, ap bit t)) (λ t. omega (arith, is_bit, ap bit t))))

-- ---- the second pass

-- a number is among the first n of a list, or is not
find : (xs : List ℕ) (n v : ℕ) → ((p : ℕ) × (p < n) × (get_or xs p 0 ≡ v)) ⊎ ((p : ℕ) → p < n → get_or xs p 0 ≢ v)
find xs zero v = inr (λ p l. absurd (omega arith))
find xs (suc n) v = by_cases (ℕ_discrete (get_or xs n 0) v)
    (λ e. inl (n, omega arith, e))
    (λ d. ⊎_elim (λ r. inl (r.0, omega (arith, r.1), r.2)) (λ f. inr (λ p l. by_cases (ℕ_discrete p n) (λ q. rw q d) (λ q. f p (omega (arith, q)))))
    (find xs n v))

-- ---- both passes

module _ (first : Bool) (a b c d own : List ℕ) (top : ℕ) (ask : Asked a b c d own top first)
    (need : List Bool) (needed : (m : ℕ) → m < net_entries → get_or need m false ≡ wanted first (tallies a b c d) m)
    (left : List Bool) (spare placed : List ℕ) (n : ℕ) (took : Took own need left spare placed n top) where
  -- there are lanes enough
  enough : nets (λ m. get_or left m false) ≤ n
  enough = omega (
    arith,
    took.all,
    ask.room,
    count_same (λ m. get_or need m false) (wanted first (tallies a b c d)) largest_net
        (λ m i. needed m (omega arith)),
  )

  pub lanes_distinct : Distinct spare (nets (λ m. get_or left m false))
  lanes_distinct = record {
    few = omega (arith, count_le (λ m. get_or left m false) largest_net);
    inside = λ p l. omega (arith, (took.vacant p (omega (arith, enough))).0, ask.most);
    apart = λ p q l k. took.apart p q l (omega (arith, enough));
  }

  module _ (list lanes : List ℕ) (listed : Listed left list (nets (λ m. get_or left m false)))
      (spread : Spread placed spare list (nets (λ m. get_or left m false)) lanes) where
    -- what a lane holds came from the list, or was placed in the first pass
    source : (i : ℕ) → ((p : ℕ) × (p < nets (λ m. get_or left m false)) × (get_or spare p 0 ≡ i) × (get_or lanes i 0 ≡ get_or list p 0)) ⊎
        (get_or lanes i 0 ≡ get_or placed i 0)
    source i = ⊎_map
        (λ r. (r.0, r.1, r.2, ap (λ (x : ℕ). get_or lanes x 0) (sym r.2) ∙ spread.put r.0 r.1))
        (λ f. spread.kept i f)
        (find spare (nets (λ m. get_or left m false)) i)

    -- a net has a lane, at one of its own places if it has one
    has : (m : ℕ) → In m largest_net → get_or need m false ≡ true
        → (i : ℕ) × (i < top) × (get_or lanes i 0 ≡ m) × ((j : ℕ) → j < length own → get_or own j 0 ≡ m → (i < length own) × (get_or own i 0 ≡ m))
    has m l t = split (get_or left m false) listed_one placed_one
      where
        listed_one : get_or left m false ≡ true
            → (i : ℕ) × (i < top) × (get_or lanes i 0 ≡ m) × ((j : ℕ) → j < length own → get_or own j 0 ≡ m → (i < length own) × (get_or own i 0 ≡ m))
        listed_one w =
            let p = count (λ k. get_or left k false) m - 1 in
            let one : 1 ≤ count (λ k. get_or left k false) m = omega (arith, sum_part (λ k. bit (get_or left k false)) m m (omega arith), ap bit w) in
            let b : p < nets (λ m. get_or left m false) = omega (arith, sum_grows (λ k. bit (get_or left k false)) m largest_net l.1) in
            let r = listed.is p b in
            let e : get_or list p 0 ≡ m = rank_same left (get_or list p 0) m r.1 w (omega (arith, r.2)) in (
              get_or spare p 0,
              (took.vacant p (omega (arith, enough))).0,
              spread.put p b ∙ e,
              λ j k f. absurd
                  ((took.waits m w).1 j (omega (arith, ask.beside)) f),
            )

        placed_one : get_or left m false ≡ false
            → (i : ℕ) × (i < top) × (get_or lanes i 0 ≡ m) × ((j : ℕ) → j < length own → get_or own j 0 ≡ m → (i < length own) × (get_or own i 0 ≡ m))
        placed_one w =
            let (i, e) = took.got m t w in
            let z : get_or placed i 0 ≢ 0 = λ f. omega arith in
            let r = took.mine i z in
            let kept : get_or lanes i 0 ≡ get_or placed i 0
            = spread.kept i (λ p b f. z (ap (λ (x : ℕ). get_or placed x 0) (sym f) ∙ (took.vacant p (omega (arith, enough))).1)) in
            (i, r.0, kept ∙ e, λ j k f. (within own i (λ y. z (sym r.1 ∙ y)), r.1 ∙ e))

    only_needed : (i : ℕ) → get_or lanes i 0 ≢ 0 → In (get_or lanes i 0) largest_net × (get_or need (get_or lanes i 0) false ≡ true)
    only_needed i z = ⊎_elim
        (λ s. let (p, l, q, e) = s in let r = listed.is p l in rw e (r.0, (took.waits _ r.1).0))
        (λ e. let r = took.mine i (λ f. z (e ∙ f)) in rw e (omega (arith, r.1, small_net own i ask.side, z, e), r.2))
        (source i)

    no_two : (i j : ℕ) → get_or lanes i 0 ≢ 0 → get_or lanes i 0 ≡ get_or lanes j 0 → i ≡ j
    no_two i j z e = go (source i) (source j)
      where
        clash : (i j p : ℕ) → p < nets (λ m. get_or left m false) → get_or lanes i 0 ≡ get_or list p 0 → get_or lanes j 0 ≡ get_or placed j 0 → get_or lanes i 0 ≢ 0
            → get_or lanes i 0 ≡ get_or lanes j 0 → ⊥
        clash i j p l u v z e =
            true≢false (sym (listed.is p l).1 ∙ ap (λ (x : ℕ). get_or left x false) (sym u ∙ e ∙ v) ∙ (took.mine j (λ f. z (e ∙ v ∙ f))).3)

        go : ((p : ℕ) × (p < nets (λ m. get_or left m false)) × (get_or spare p 0 ≡ i) × (get_or lanes i 0 ≡ get_or list p 0)) ⊎ (get_or lanes i 0 ≡ get_or placed i 0)
            → ((p : ℕ) × (p < nets (λ m. get_or left m false)) × (get_or spare p 0 ≡ j) × (get_or lanes j 0 ≡ get_or list p 0)) ⊎ (get_or lanes j 0 ≡ get_or placed j 0)
            → i ≡ j
        go (inl (p, l, f, u)) (inl (q, k, g, v)) =
            let same : get_or list p 0 ≡ get_or list q 0 = sym u ∙ e ∙ v in
            let rank : suc p ≡ suc q = sym (listed.is p l).2 ∙ ap (λ (x : ℕ). count (λ m. get_or left m false) x) same ∙ (listed.is q k).2 in
            sym f ∙ ap (λ (x : ℕ). get_or spare x 0) (omega arith) ∙ g
        go (inl (p, l, f, u)) (inr v) = absurd (clash i j p l u v z e)
        go (inr u) (inl (q, k, g, v)) = absurd (clash j i q k v u (λ y. z (e ∙ y)) (sym e))
        go (inr u) (inr v) = took.once i j (λ f. z (u ∙ f)) (sym u ∙ e ∙ v)

    pub lanes_of : Lanes (wanted first (tallies a b c d)) (entry own) (length own) top (entry lanes)
    lanes_of = record {
      got = λ m l t. (let r = has m l (needed m (omega arith) ∙ t) in (suc r.0, omega (arith, r.1), r.2));
      beside = λ m j l t k e. (let r = has m l (needed m (omega arith) ∙ t) in
          let o = r.3 (j - 1) (omega arith) (sym (entry_at own j k.0) ∙ e) in
          (suc r.0, omega (arith, o.0), r.2, o.1));
      only = λ i l z. (let e = entry_at lanes i l.0 in let o = only_needed (i - 1) (λ f. z (e ∙ f)) in
          rw e (o.0, sym (needed _ (omega (arith, o.0))) ∙ o.1));
      once = λ i j l k z e. (let r = no_two (i - 1) (j - 1) (λ f. z (entry_at lanes i l.0 ∙ f)) (sym (entry_at lanes i l.0) ∙ e ∙ entry_at lanes j
          k.0) in
          omega arith);
    }
