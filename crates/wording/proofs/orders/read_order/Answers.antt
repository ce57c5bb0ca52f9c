-- `orders::read_order` meets its contract: the word `rp235x` decides the case of `order_of`.
use Rattle.std.proofs.Common.{arith}
use Rattle.wording.specs.Orders.{order_of}
use Rattle.wording.proofs.orders.read_order.Goals as goal

pub returns-then-eq : goal.returns-then-eq
unfolding order_of
returns-then-eq c = grind arith
