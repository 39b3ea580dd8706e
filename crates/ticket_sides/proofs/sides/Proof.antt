-- `ticket_sides::sides` meets its contract: each side goes on from the end of the one before.
use mathlib.Core.Bool.{Bool}
use mathlib.Core.Path.{◌≡◌, ap₂, ◌∙◌}
use native.Mathlib.Omega.{arith}
use borrow.Author.Rules.{rules}
use Rattle.ticket_sides.proofs.Laws.{at_going}
use Rattle.ticket_sides.specs.Stages.{after, north_end, south_end, west_end, east_end}
use Rattle.ticket_sides.specs.Format.{byte}
use Rattle.ticket_sides.specs.declared.Cursor.{Cursor}
use Rattle.ticket_sides.proofs.sides.Statement.{statement}
use Rattle.ticket_sides.proofs.sides.Tie as tie

after-requires : tie.Need-after-north-requires
after-requires c κs = let h = c.before.before.before.before.before.before.requires in
    (h.one.0, h.one.1, omega (arith, at_going c.go_on.ensures, h.size))

after-requires-4 : tie.Need-after-east-requires
after-requires-4 c κs = let h = c.before.before.before.before.before.before.before.before.before.before.before.before.requires in
    (h.two.0, h.two.1, c.before.after-west.ensures.1)

returns : tie.Need-returns
unfolding north_end south_end west_end east_end
returns c =
    let c4 = c.before.before.before.before in
    let c6 = c4.before.before in
    let c8 = c6.before.before in
    let s = c8.before.before.before.before.before.args.ticket.now in
    let n : Bool → Cursor → Cursor = λ b x. after s b (byte s 1) x in
    let w : Bool → Cursor → Cursor = λ b x. after s b (byte s 2) x in
    let north : c6.after-north.result ≡ north_end s = c6.after-north.ensures.0 ∙ ap₂ n c8.bit_of.ensures c6.before.go_on.ensures in
    let south : c4.after-south.result ≡ south_end s = c4.after-south.ensures.0 ∙ ap₂ n c4.before.bit_of-2.ensures north in
    let west : c.before.before.after-west.result ≡ west_end s = c.before.before.after-west.ensures.0 ∙ ap₂ w
    c.before.before.before.bit_of-3.ensures south in
    let east : c.after-east.result ≡ east_end s = c.after-east.ensures.0 ∙ ap₂ w c.before.bit_of-4.ensures west in
    λ i. record { north = north i; south = south i; west = west i; east = east i }

pub sides_spec : {M : Type 1} → statement M
sides_spec =
    tie.close (tie.spec (λ c. search rules) (λ c. search rules) (λ c. search rules) (λ c. search rules) (λ c. search rules)
    (λ c κs. search rules) (λ c κs. search rules) after-requires (λ c κs. search rules) (λ c κs. search rules) (λ c κs. search rules)
    (λ c κs. search rules) (λ c κs. search rules) after-requires-4 returns)
