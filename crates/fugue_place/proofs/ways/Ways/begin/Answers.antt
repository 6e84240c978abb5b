use Rattle.std.proofs.Common.{◌+◌, refl}
use Rattle.fugue_place.proofs.ReadyWays.{ready_sound, ready_place, ready_chains, ready_rows, ready_heads, ready_low, ready_bound, ready_near, one_more}
use Rattle.fugue_place.proofs.ways.Ways.begin.Goals as goal

pub leading_head-head-requires : goal.leading_head-head-requires
leading_head-head-requires c =
    let v = c.requires.ready.0 in
    let w = c.args.self.now in
    record {
      sound = ready_sound v w c.requires.ready.1 c.args.behind c.requires.ready.2 c.requires.few;
      place = ready_place v w c.requires.ready.1 c.args.behind c.requires.ready.2 c.requires.few;
    }

pub push_reserved-requires : goal.push_reserved-requires
push_reserved-requires c = c.requires.ready.2.room

pub add-requires : goal.add-requires
add-requires c =
    let v = c.requires.ready.0 in
    let w = c.args.self.now in
    record {
      chains = ready_chains v w c.requires.ready.1 c.args.behind c.requires.ready.2 c.requires.few;
      room = ready_rows v w c.requires.ready.1 c.args.behind c.requires.ready.2 c.requires.few c.leading_head-head.result c.leading_head-head.ensures.some;
      behind = ready_heads v w c.requires.ready.1 c.args.behind c.requires.ready.2 c.requires.few c.leading_head-head.result c.leading_head-head.ensures.some;
    }

pub above-self-requires : goal.above-self-requires
above-self-requires c = ready_low c.requires.ready.0 c.args.self.now c.requires.ready.1 c.args.behind c.requires.ready.2 c.requires.few

pub returns : goal.returns
returns c = λ v kept ready.
    let w = c.args.self.now in
    one_more v w _ kept c.args.behind ready c.requires.few refl refl c.push_reserved.ensures.items (λ k. refl) c.leading_head-head.result c.leading_head-head.ensures.some c.leading_head-head.ensures.none
    c.add.ensures.chains c.add.ensures.count c.add.ensures.led c.above-self.ensures.bound c.above-self.ensures.behind
    (c.above-self.ensures.near (w.count + 1) (ready_bound v w kept c.args.behind ready c.requires.few) (ready_near v w kept c.args.behind ready c.requires.few))
