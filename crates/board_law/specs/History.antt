-- What a list of calls does to a board: "After any list of these calls from a fresh board, the pins are those of the nets added and not
-- since dropped, and across, up and floor are those that a survey of its ticket gives" (document 02, job 7); "every stored figure equals
-- the definition" (job 8). The law is `history` of proofs/History.antt.
--
--   Call                  a call on a board: adding a net at a list of places, or dropping a list of nets
--   NetPlaces             the nets that are there: for each its list of places, which is empty where the net is not there
--   no_nets               "starts without pins"
--   is_in ns m            net m is there
--   is_taken ns v         one of the nets has the place v: it is "filled"
--   is_open q ns v        v is a place of the board, by its kind and shape, that no net has
--   changed ns m l        the nets, with the list l for net m
--   emptied ns l          the nets, with no place for those of the list l
--   after_call q ns c     the nets after a call: a net that is added has the places that the call lists, those that are dropped have
--                         none, and "A refused call leaves the board as it found it"
--   nets_after q ns cs    the nets after a list of calls, the first call first
--   BoardState            what a board holds: a problem, and the stored figures of columns and tracks
--   Fresh kind n byte2 b  what a board of this kind and shape may hold when it starts
--   CountsKept b b'       a call that leads from b to b' keeps the stored figures true
--   LeadsTo b cs b'       a board that held b holds b' after the calls cs, each of which kept its contract
--   Kept q₀ q ns          what a board that started as q₀ holds, where the nets are ns:
--     kind, n, byte2       "A board has a kind and a shape", and no call changes them
--     pins, places         "the pins are those of the nets": the net at a place has it on its list, and no other has; every place on
--                          a list is a place of the board
--     add_refusals, drop_refusals
--                          what is refused depends on the nets alone
--     nets                 the number of nets is how many are there
--     several              "Each net has at least two pins"
--     read                 Read accepts the board's ticket, as the problem that the board holds
--     surveyed             "across, up and floor are those that a survey of its ticket gives": Survey's answer to the ticket
--   KeptCounts b          what is stored after a list of calls:
--     counted              "every stored figure equals the definition as Job 6 left it"
--     small                no stored figure is above the largest net's number, so that a byte holds each
--     across, up, floor    what is read off the stored figures is Survey's
use Rattle.std.specs.Prelude.{ℕ, ◌≤◌, ◌≡◌, Bool, true, cond, not, ◌&&◌, List, [], ◌∷◌, eqb, leb, length}
use Rattle.counting.specs.Counting.{In, some}
use Rattle.terms.specs.Limits.{largest_net}
use Rattle.terms.specs.Kinds.{Side}
use Rattle.terms.specs.Refusals.{accepted}
use Rattle.terms.specs.declared.Refusal.{Refusal}
use Rattle.grid.specs.Grid.{places}
use Rattle.grid.specs.Legal.{entry, nets}
use Rattle.problem.specs.declared.Problem.{Problem}
use Rattle.problem.specs.Problem.{pins_in, pin_count, filled, shape_of}
use Rattle.figures.specs.Figures.{figures_of}
use Rattle.ticket.specs.Read.{accepted_reading, ticket_of}
use Rattle.ticket_bytes.specs.Bytes.{bytes_of}
use Rattle.survey.specs.Survey.{answered, survey_of}
use Rattle.board_law.specs.Places.{place_number, is_place, listed}
use Rattle.board_law.specs.Edits.{start_problem, is_there, is_free, add_refusal, drop_refusal, NetAdded, NetsDropped}
use Rattle.board_law.specs.Counts.{count_entries, Counted, stored_across, stored_up, stored_floor}

pub data Call : Type 0 where
  adding : ℕ → List ℕ → Call
  dropping : List ℕ → Call

abbrev pub NetPlaces : Type 0
NetPlaces = ℕ → List ℕ

abbrev pub no_nets : NetPlaces
no_nets m = []

abbrev pub is_in : NetPlaces → ℕ → Bool
is_in ns m = leb 1 (length (ns m))

abbrev pub is_taken : NetPlaces → ℕ → Bool
is_taken ns v = some (λ m. listed (ns m) v) largest_net

abbrev pub is_open : Problem → NetPlaces → ℕ → Bool
is_open q ns v = is_place q v && not (is_taken ns v)

abbrev pub changed : NetPlaces → ℕ → List ℕ → NetPlaces
changed ns m l x = cond (eqb x m) l (ns x)

abbrev pub emptied : NetPlaces → List ℕ → NetPlaces
emptied ns l x = cond (listed l x) [] (ns x)

abbrev pub after_call : Problem → NetPlaces → Call → NetPlaces
after_call q ns (adding m l) = cond (accepted (add_refusal (is_in ns m) (is_open q ns) m l)) (changed ns m l) ns
after_call q ns (dropping l) = cond (accepted (drop_refusal (is_in ns) l)) (emptied ns l) ns

unfoldable pub nets_after : Problem → NetPlaces → List Call → NetPlaces
nets_after q ns [] = ns
nets_after q ns (c ∷ cs) = nets_after q (after_call q ns c) cs

pub record BoardState : Type 0 where
  pub problem : Problem
  pub columns : List ℕ
  pub tracks : List ℕ

pub record Fresh (kind n byte2 : ℕ) (b : BoardState) : Type 0 where
  pub problem : b.problem ≡ start_problem kind n byte2
  pub counted : Counted b.problem b.columns b.tracks

abbrev pub CountsKept : BoardState → BoardState → Type 0
CountsKept b b' = Counted b.problem b.columns b.tracks → Counted b'.problem b'.columns b'.tracks

pub data LeadsTo : BoardState → List Call → BoardState → Type 0 where
  done : {b : BoardState} → LeadsTo b [] b
  adds : {b b' b'' : BoardState} {m : ℕ} {l : List ℕ} {r : Refusal} {cs : List Call}
      → NetAdded b.problem m l r b'.problem → CountsKept b b' → LeadsTo b' cs b'' → LeadsTo b (adding m l ∷ cs) b''
  drops : {b b' b'' : BoardState} {l : List ℕ} {r : Refusal} {cs : List Call}
      → NetsDropped b.problem l r b'.problem → CountsKept b b' → LeadsTo b' cs b'' → LeadsTo b (dropping l ∷ cs) b''

pub record Kept (q₀ q : Problem) (ns : NetPlaces) : Type 0 where
  pub kind : q.kind ≡ q₀.kind
  pub n : q.n ≡ q₀.n
  pub byte2 : q.byte2 ≡ q₀.byte2
  pub pins : (s : Side) (a m : ℕ) → In a (places (shape_of q) s) → In m largest_net
      → eqb (pins_in q.pins s a) m ≡ listed (ns m) (place_number s a)
  pub places : (m v : ℕ) → In m largest_net → listed (ns m) v ≡ true → is_place q v ≡ true
  pub add_refusals : (m : ℕ) (l : List ℕ)
      → add_refusal (is_there (pins_in q.pins) m) (is_free q (pins_in q.pins)) m l ≡ add_refusal (is_in ns m) (is_open q ns) m l
  pub drop_refusals : (l : List ℕ) → drop_refusal (is_there (pins_in q.pins)) l ≡ drop_refusal (is_in ns) l
  pub nets : q.nets ≡ nets (is_in ns)
  pub several : (m : ℕ) → In m largest_net → is_in ns m ≡ true → 2 ≤ pin_count (pins_in q.pins) m
  pub read : ticket_of (bytes_of q) ≡ accepted_reading q
  pub surveyed : survey_of (bytes_of q) ≡ answered q (figures_of q) (filled (pins_in q.pins))

pub record KeptCounts (b : BoardState) : Type 0 where
  pub counted : Counted b.problem b.columns b.tracks
  pub small : (c : ℕ) → In c count_entries → (entry b.columns c ≤ largest_net) × (entry b.tracks c ≤ largest_net)
  pub across : stored_across b.columns ≡ (survey_of (bytes_of b.problem)).across
  pub up : stored_up b.tracks ≡ (survey_of (bytes_of b.problem)).up
  pub floor : stored_floor b.problem b.columns b.tracks ≡ (survey_of (bytes_of b.problem)).floor.0
