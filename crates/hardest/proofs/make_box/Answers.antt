-- `hardest::make_box`: the lists are those of the definition, place by place, by the sizes of the shape.
use Rattle.std.proofs.Common.{◌≡◌, ℕ, ◌+◌, arith, rules, of_calls}
use Rattle.counting.specs.Counting.{In}
use Rattle.grid.specs.Legal.{entry}
use Rattle.hardest_law.specs.Box.{rotated}
use Rattle.hardest.proofs.Lists.{side_listed, box_made}
use Rattle.hardest.proofs.make_box.Goals as goal

pub returns : goal.returns
returns c =
    let n = c.column_count-columns.result in
    let w = c.track_count-tracks.result in
    let north = c.side_of-north.ensures in
    let south = c.side_of-south.ensures in
    let west = c.side_of-west.ensures in
    let east = c.side_of-east.ensures in
    let norths : (a : ℕ) → In a n → entry c.side_of-north.result a ≡ a = λ a i. search (rules, of_calls, north.nets a i) in
    let souths : (a : ℕ) → In a n → entry c.side_of-south.result a ≡ rotated n a = λ a i. search (rules, of_calls, south.nets a i) in
    let wests : (a : ℕ) → In a w → entry c.side_of-west.result a ≡ n + a = λ a i. search (rules, of_calls, west.nets a i) in
    let easts : (a : ℕ) → In a w → entry c.side_of-east.result a ≡ n + rotated w a = λ a i. search (rules, of_calls, east.nets a i) in
    rw (c.swap.ensures.x_after, c.swap.ensures.y_after)
    (box_made c.args.n c.args.w.0 c.column_count-columns.ensures c.track_count-tracks.ensures c.requires.0 c.requires.1
    (record {
      norths = side_listed (λ x. x) n (omega arith) north.size norths north.empty;
      souths = side_listed (rotated n) n (omega arith) south.size souths south.empty;
      wests = side_listed (λ x. n + x) w (omega arith) west.size wests west.empty;
      easts = side_listed (λ x. n + rotated w x) w (omega arith) east.size easts east.empty;
    }))
