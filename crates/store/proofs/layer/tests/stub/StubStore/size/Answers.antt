use Rattle.std.proofs.Common.{sym}
use Rattle.store.specs.Tabled.{length_table}
use Rattle.store.proofs.layer.tests.stub.StubStore.size.Goals as goal

pub returns : goal.returns
returns c = sym (length_table c.args.self.now.sectors _)
