-- Which parts of a core, and of a server, threads may share, or hand to one another. (A directory holds nodes in itself, so this isn't found by itself.)
use denote.RattleType.{RattleType}
use Rattle.std.proofs.sync.RwLock.TheSendSync as lock_laws
use Rattle.audit_check.proofs.check.Opening.TheSendSync as opening
use Rattle.name_service.specs.contracts.server.NameServer as server
use Rattle.name_service.specs.contracts.server.NameServer.TheInside as inside
use denote.Param.Send.{IsSync, IsSend, sendable, view_sync, recorded_sync, struct_sync}
use denote.Struct.Declared.{shape}
use Rattle.std.proofs.Crossing as own
use Rattle.std.proofs.MapsCrossing as maps
use Rattle.std.proofs.alloc.Global.TheSendSync as heap
use Rattle.block_keys.proofs.key.Key.TheSendSync as key
use Rattle.hdfs_values.proofs.moment.Moment.TheSendSync as moment
use Rattle.history.proofs.config.Config.TheSendSync as config
use Rattle.history.proofs.entry.HistoryEntry.TheSendSync as entry
use Rattle.principals.proofs.users.Users.TheSendSync as users
use Rattle.lease_manager.proofs.writers.Writers.TheSendSync as writers
use Rattle.block_tokens.proofs.ring.KeyRing.TheSendSync as ring
use Rattle.block_map.proofs.blocks.Blocks.TheSendSync as blocks
use Rattle.grant_ledger.proofs.ledger.Ledger.TheSendSync as ledger
use Rattle.open_file_paths.proofs.open_paths.OpenPaths.TheSendSync as paths
use Rattle.file_table.proofs.table.FileTable.TheSendSync as table
use Rattle.acl_entries.proofs.acl.Acl.TheSendSync as acl
use Rattle.file_paths.proofs.name.Name.TheSendSync as name
use Rattle.file_table.proofs.place.FilePlace.TheSendSync as place
use Rattle.hdfs_values.proofs.who.Who.TheSendSync as who
use Rattle.inode_nodes.proofs.node.Node.TheLaws.TheKnot as knot
use Rattle.inode_nodes.specs.contracts.node.Node as node
use Rattle.inode_files.specs.contracts.nodes.Nodes as nodes
use Rattle.inode_tree.specs.contracts.tree.Tree as tree
use Rattle.namesystem.specs.contracts.namesystem.Namesystem as system
use Rattle.name_core.specs.contracts.namenode.NameCore as core

pub node_sync : IsSync node.the_row
node_sync = search (acl.the_sync, name.the_sync, place.the_sync, who.the_sync, maps.crosses, own.crosses, knot.crosses, sendable) depth 60 fits 20000

pub node_send : IsSend node.the_row
node_send = search (acl.the_send, name.the_send, place.the_send, who.the_send, maps.crosses, own.crosses, knot.crosses, sendable) depth 60 fits 20000

pub nodes_sync : IsSync nodes.the_row
nodes_sync = search (node_sync, table.the_sync, sendable) depth 60 fits 20000

pub nodes_send : IsSend nodes.the_row
nodes_send = search (node_send, table.the_send, sendable) depth 60 fits 20000

pub tree_sync : IsSync tree.the_row
tree_sync = search (nodes_sync, sendable) depth 60 fits 20000

pub tree_send : IsSend tree.the_row
tree_send = search (nodes_send, sendable) depth 60 fits 20000

system_row_sync : IsSync (system.the_field).row
system_row_sync = search (tree_sync, users.the_sync, writers.the_field_sync, ring.the_sync, blocks.the_sync, sendable) depth 60 fits 20000

system_row_send : IsSend (system.the_field).row
system_row_send = search (tree_send, users.the_send, writers.the_field_send, ring.the_send, blocks.the_send, sendable) depth 60 fits 20000

pub core_sync : IsSync core.the_row
core_sync = search (system_row_sync, config.the_sync, key.the_sync, moment.the_sync, paths.the_sync, ledger.the_sync, entry.the_sync, heap.the_field_sync, own.crosses, sendable) depth 60 fits 20000

pub core_send : IsSend core.the_row
core_send = search (system_row_send, config.the_send, key.the_send, moment.the_send, paths.the_send, ledger.the_send, entry.the_send, heap.the_field_send, own.crosses, sendable) depth 60 fits 20000

pub server_sync : (T : RattleType) → IsSync T → IsSync (server.the_row T)
server_sync T s =
    view_sync _ _ _ _ _
    (recorded_sync (inside.the_field T).row _ _ (inside.the_type T).to_one
    (struct_sync (shape (inside.the_type T)) (heap.the_field_sync, (opening.the_field_sync, (s, (lock_laws.the_field_sync core.the_row core_send core_sync, tt))))))
