use Rattle.serde_json.specs.View.{view}
use Rattle.utoipa_base.proofs.WhatIsRead.{read_normal}
use Rattle.utoipa_base.proofs.laws.what_is_read.Goals as goal

pub returns : goal.returns
returns g c = read_normal g.T.Documented.kind (view c.args.tree.now)
