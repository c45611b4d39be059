mod Exact
mod Refusing
