-- Gallai's packing of spans into places, as the code runs it. The promise is in Trunks; this file says what each step computes.
--
--   pick b a c         a for yes, c for no
--   first_free lasts l the first place whose last span ended before column l, or the number of places where none is
--   fresh_packing      no span has its place yet
--   placed p s         the state once s has its place: the first that is free from its leftmost column on
--   packed p ss        the same for a list of spans, one after the other
--   Fits p s           s finds a place that is free, and its net has an entry
--   Packable p ss      each of them does
use Rattle.std.specs.Prelude.{ℕ, suc, ◌≤◌, ◌<◌, Bool, true, false, List, [], ◌∷◌, set, replicate, ltb}
use Rattle.terms.specs.Limits.{largest_net, net_entries}
use Rattle.nets.specs.declared.Span.{Span}
use Rattle.trunks.specs.declared.Packing.{Packing}

abbrev pub pick : Bool → ℕ → ℕ → ℕ
pick true a c = a
pick false a c = c

abbrev pub first_free : List ℕ → ℕ → ℕ
first_free [] l = 0
first_free (x ∷ xs) l = pick (ltb x l) 0 (suc (first_free xs l))

abbrev pub fresh_packing : Packing
fresh_packing = record { lasts = replicate largest_net 0; place = replicate net_entries 0 }

abbrev pub placed : Packing → Span → Packing
placed p s = record {
  lasts = set p.lasts (first_free p.lasts s.left) s.right;
  place = set p.place s.net (first_free p.lasts s.left);
}

abbrev pub packed : Packing → List Span → Packing
packed p [] = p
packed p (s ∷ ss) = packed (placed p s) ss

abbrev pub Fits : Packing → Span → Type 0
Fits p s = (first_free p.lasts s.left < largest_net) × (s.net ≤ largest_net)

abbrev pub Packable : Packing → List Span → Type 0
Packable p [] = Unit {0}
Packable p (s ∷ ss) = Fits p s × Packable (placed p s) ss
