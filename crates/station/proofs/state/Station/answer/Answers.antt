-- `station::state::Station::answer`: the records that are answered end inside what came, and the rest of it is less than a record. Assumes nothing.
use Rattle.std.proofs.Common.{◌≡◌, arith, rules, refl, sym, length}
use Rattle.station.proofs.Hand.{end_inside, rest_begins, less_waits, answers}
use Rattle.station.proofs.state.Station.answer.Goals as goal

pub overflow_add-end : goal.overflow_add-end
overflow_add-end c =
    let long : length c.args.self.now.input ≡ 49152 = search rules in
    record { fits = omega (arith, long, end_inside c.args.self.now.input c.args.self.now.kept c.args.n c.args.self.now.less c.requires c.answered_to.ensures) }

pub slice_bounds-hand-end : goal.slice_bounds-hand-end
slice_bounds-hand-end c = end_inside c.args.self.now.input c.args.self.now.kept c.args.n c.args.self.now.less c.requires c.answered_to.ensures

pub keep-left-requires : goal.keep-left-requires
keep-left-requires c = rest_begins c.args.self.now.input c.args.self.now.kept c.args.n c.args.self.now.less c.requires c.answered_to.ensures

pub invariant_of-self : goal.invariant_of-self
invariant_of-self c =
    let less = less_waits c.args.self.now.input c.args.self.now.kept c.args.n c.args.self.now.less c.requires c.answered_to.ensures in
    record { less = omega (arith, less, c.keep-left.ensures.value) }

pub returns-clause-answers : goal.returns-clause-answers
returns-clause-answers c =
    answers c.args.self.now.input c.args.self.now.kept c.args.n c.answered_to.result c.args.self.now.less c.requires c.answered_to.ensures
    c.run-next.ensures.runs refl c.keep-left.ensures.value c.keep-left.ensures.from_after

pub shape_of-self : goal.shape_of-self
shape_of-self c = sym c.run-next.ensures.keeps.notices

pub shape_of-self-2 : goal.shape_of-self-2
shape_of-self-2 c = sym c.run-next.ensures.keeps.bytes

pub shape_of-self-3 : goal.shape_of-self-3
shape_of-self-3 c = sym c.run-next.ensures.keeps.receive

pub shape_of-self-4 : goal.shape_of-self-4
shape_of-self-4 c = sym c.run-next.ensures.keeps.send
